-- Bits that are written byte by byte.
use Rattle.std.proofs.Common.{◌≡◌, ℕ, ◌+◌, ◌*◌, Bool, List, [], ◌∷◌, ◌++◌, length, map, sym, ap, ◌∙◌, arith, append_assoc}
use Rattle.std.specs.List.{range_with_len}
use Rattle.std.proofs.lemmas.List.FromFn.{map-range_with_len_more}
use Rattle.relation_text.specs.Bits.{six_bits, bytes_for, bit_bytes}

-- the first q bytes of the bits
abbrev pub bytes_to : List Bool → ℕ → List ℕ
bytes_to bits q = map (λ k. six_bits bits (6 * k) + 63) (range_with_len 0 q)

pub bytes_to-more : (bits : List Bool) (q byte : ℕ) (front old new : List ℕ) → old ≡ front ++ bytes_to bits q → byte ≡ six_bits bits (6 * q) → new ≡ old ++ (byte + 63) ∷ [] → new ≡ front ++ bytes_to bits (q + 1)
bytes_to-more bits q byte front old new e f g =
    g ∙ ap (λ xs. xs ++ (byte + 63) ∷ []) e ∙ ap (λ b. (front ++ bytes_to bits q) ++ (b + 63) ∷ []) f ∙ append_assoc front (bytes_to bits q) ((six_bits bits (6 * q) + 63) ∷ [])
    ∙ ap (λ xs. front ++ xs) (sym (map-range_with_len_more (λ k. six_bits bits (6 * k) + 63) 0 q q (omega arith)))

pub bytes_to-all : (bits : List Bool) (q : ℕ) → q ≡ bytes_for (length bits) → bytes_to bits q ≡ bit_bytes bits
unfolding bit_bytes
bytes_to-all bits q e = ap (bytes_to bits) e
