-- Pieces that are written one after the other, up to a fault.
use Rattle.std.proofs.Common.{◌≡◌, ℕ, ◌+◌, ◌<◌, ◌≤◌, List, ◌++◌, length, get_or, take, drop, Option, ⊎_elim, inl, inr, sym, ap, subst, ◌∙◌, arith}
use Rattle.std.proofs.lemmas.List.{drop_more, take-append-le, take-append-drop}
use Rattle.std.proofs.lemmas.Grind.{flat_map-append}
use Rattle.std.proofs.Math.Seq.{take-append-add}
use Rattle.std.specs.Prelude.{flat_map}
use Rattle.std.proofs.KnownBytes.{Appends-trans}
use Rattle.std.specs.Io.KnownBytes.{Appends}
use Rattle.scheme_io.specs.Count.{Rose}
use Rattle.scheme_io.specs.Bytes.{AppendsPart}

-- a count that rose late rose since an earlier moment
pub Rose_since : (a b c : ℕ) → a ≤ b → Rose b c → Rose a c
Rose_since a b c le rose = ⊎_elim (λ above. inl (omega (arith, le, above))) (λ last. inr last) rose

-- n elements of what begins with front and then piece
pub take_into : (front piece rest : List ℕ) (n : ℕ) → n ≤ length piece → take (length front + n) (front ++ (piece ++ rest)) ≡ front ++ take n piece
take_into front piece rest n le = take-append-add front (piece ++ rest) n ∙ ap (λ (l : List ℕ). front ++ l) (take-append-le n piece rest le)

module _ {X : Type 0} (f : X → List ℕ) where
  pub parts_at : (xs : List X) (i : ℕ) (d : X) → i < length xs → flat_map f xs ≡ flat_map f (take i xs) ++ (f (get_or xs i d) ++ flat_map f (drop (i + 1) xs))
  parts_at xs i d lt =
      ap (flat_map f) (sym (take-append-drop i xs)) ∙ flat_map-append f (take i xs) (drop i xs)
      ∙ ap (λ (l : List X). flat_map f (take i xs) ++ flat_map f l) (drop_more xs i d lt)

-- the pieces so far, and a part of the next
pub part_said : (a b c : Option (List ℕ)) (line front piece rest : List ℕ) → line ≡ front ++ (piece ++ rest) → Appends a b front → AppendsPart b c piece → (n : ℕ) × Appends a c (take n line)
part_said a b c line front piece rest is so_far part =
    let le : part.0 ≤ length piece = omega arith in
    let same : front ++ take part.0 piece ≡ take (length front + part.0) line = sym (ap (take (length front + part.0)) is ∙ take_into front piece rest part.0 le) in
    (length front + part.0, subst (Appends a c) same (Appends-trans a b c _ _ so_far part.2))
