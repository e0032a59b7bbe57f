-- Bits, six to a byte: what is encoded is read back, and the other way round.
use Rattle.std.proofs.Common.{◌≡◌, ℕ, zero, suc, ◌+◌, ◌-◌, ◌*◌, ◌/◌, ◌%◌, ◌^◌, ◌<◌, ◌≤◌, Bool, true, false, cond, eqb, List, length, map, get_or, refl, sym, ap, ◌∙◌, arith, add-zero, inl, inr}
use Rattle.std.specs.List.{range_with_len}
use Rattle.std.proofs.lemmas.List.{ext_get_or, get_or_past}
use Rattle.std.proofs.lemmas.List.FromFn.{get_or-map-range_with_len, length-map-range_with_len}
use Rattle.std.proofs.lemmas.Bool.{cases_lt}
use Rattle.relation_text.specs.Bits.{bit_value, six_bits, bytes_for, bit_bytes, bit_in}
use Rattle.relation_text.specs.Relation.{bit_at}

one_bit : (b : Bool) → cond b 1 0 ≤ 1
one_bit true = omega arith
one_bit false = omega arith

bit_value-le : (bits : List Bool) (k : ℕ) → bit_value bits k ≤ 1
bit_value-le bits k = one_bit (get_or bits k false)

first_bit : (a b c d e f : ℕ) → a ≤ 1 → b ≤ 1 → c ≤ 1 → d ≤ 1 → e ≤ 1 → f ≤ 1 → (32 * a + 16 * b + 8 * c + 4 * d + 2 * e + f) / 32 % 2 ≡ a
first_bit a b c d e f g h i j k l = omega arith

second_bit : (a b c d e f : ℕ) → a ≤ 1 → b ≤ 1 → c ≤ 1 → d ≤ 1 → e ≤ 1 → f ≤ 1 → (32 * a + 16 * b + 8 * c + 4 * d + 2 * e + f) / 16 % 2 ≡ b
second_bit a b c d e f g h i j k l = omega arith

third_bit : (a b c d e f : ℕ) → a ≤ 1 → b ≤ 1 → c ≤ 1 → d ≤ 1 → e ≤ 1 → f ≤ 1 → (32 * a + 16 * b + 8 * c + 4 * d + 2 * e + f) / 8 % 2 ≡ c
third_bit a b c d e f g h i j k l = omega arith

fourth_bit : (a b c d e f : ℕ) → a ≤ 1 → b ≤ 1 → c ≤ 1 → d ≤ 1 → e ≤ 1 → f ≤ 1 → (32 * a + 16 * b + 8 * c + 4 * d + 2 * e + f) / 4 % 2 ≡ d
fourth_bit a b c d e f g h i j k l = omega arith

fifth_bit : (a b c d e f : ℕ) → a ≤ 1 → b ≤ 1 → c ≤ 1 → d ≤ 1 → e ≤ 1 → f ≤ 1 → (32 * a + 16 * b + 8 * c + 4 * d + 2 * e + f) / 2 % 2 ≡ e
fifth_bit a b c d e f g h i j k l = omega arith

sixth_bit : (a b c d e f : ℕ) → a ≤ 1 → b ≤ 1 → c ≤ 1 → d ≤ 1 → e ≤ 1 → f ≤ 1 → (32 * a + 16 * b + 8 * c + 4 * d + 2 * e + f) / 1 % 2 ≡ f
sixth_bit a b c d e f g h i j k l = omega arith

all_bits : (v : ℕ) → v < 64 → 32 * (v / 32 % 2) + 16 * (v / 16 % 2) + 8 * (v / 8 % 2) + 4 * (v / 4 % 2) + 2 * (v / 2 % 2) + v / 1 % 2 ≡ v
all_bits v h = omega arith

-- a fact for each of the six places of a byte
six_cases : (P : ℕ → Type 0) → P 0 → P 1 → P 2 → P 3 → P 4 → P 5 → (r : ℕ) → r < 6 → P r
six_cases P a b c d e f zero h = a
six_cases P a b c d e f (suc zero) h = b
six_cases P a b c d e f (suc (suc zero)) h = c
six_cases P a b c d e f (suc (suc (suc zero))) h = d
six_cases P a b c d e f (suc (suc (suc (suc zero)))) h = e
six_cases P a b c d e f (suc (suc (suc (suc (suc zero))))) h = f
six_cases P a b c d e f (suc (suc (suc (suc (suc (suc r)))))) h = absurd (omega arith)

-- the bit at one of the six places
bit_of_six : (bits : List Bool) (k r : ℕ) → r < 6 → six_bits bits k / 2 ^ (5 - r) % 2 ≡ bit_value bits (k + r)
bit_of_six bits k r h =
    let a = bit_value-le bits k in
    let b = bit_value-le bits (k + 1) in
    let c = bit_value-le bits (k + 2) in
    let d = bit_value-le bits (k + 3) in
    let e = bit_value-le bits (k + 4) in
    let f = bit_value-le bits (k + 5) in
    let P : ℕ → Type 0 = λ q. six_bits bits k / 2 ^ (5 - q) % 2 ≡ bit_value bits (k + q) in
    six_cases P (first_bit _ _ _ _ _ _ a b c d e f ∙ ap (bit_value bits) (sym (add-zero k))) (second_bit _ _ _ _ _ _ a b c d e f) (third_bit _ _ _ _ _ _ a b c d e f)
    (fourth_bit _ _ _ _ _ _ a b c d e f) (fifth_bit _ _ _ _ _ _ a b c d e f) (sixth_bit _ _ _ _ _ _ a b c d e f) r h

pub six_bits-lt : (bits : List Bool) (k : ℕ) → six_bits bits k < 64
six_bits-lt bits k = omega (arith, bit_value-le bits k, bit_value-le bits (k + 1), bit_value-le bits (k + 2), bit_value-le bits (k + 3), bit_value-le bits (k + 4), bit_value-le bits (k + 5))

pub length-bit_bytes : (bits : List Bool) → length (bit_bytes bits) ≡ bytes_for (length bits)
unfolding bit_bytes
length-bit_bytes bits = length-map-range_with_len (λ k. six_bits bits (6 * k) + 63) 0 (bytes_for (length bits))

pub get_or-bit_bytes : (bits : List Bool) (q d : ℕ) → q < bytes_for (length bits) → get_or (bit_bytes bits) q d ≡ six_bits bits (6 * q) + 63
unfolding bit_bytes
get_or-bit_bytes bits q d h = get_or-map-range_with_len (λ k. six_bits bits (6 * k) + 63) 0 (bytes_for (length bits)) q q d h (omega arith)

as_bool : (b : Bool) → eqb (cond b 1 0) 1 ≡ b
as_bool true = refl
as_bool false = refl

-- the bits are read back, with the zeros that pad them
pub bit_in-bit_bytes : (bits : List Bool) (k : ℕ) → k < 6 * bytes_for (length bits) → bit_in (bit_bytes bits) k ≡ bit_at bits k
bit_in-bit_bytes bits k h =
    let q = k / 6 in
    let r = k % 6 in
    let inside : q < bytes_for (length bits) = omega arith in
    let below : r < 6 = omega arith in
    let there : 6 * q + r ≡ k = omega arith in
    let byte : get_or (bit_bytes bits) q 0 - 63 ≡ six_bits bits (6 * q) = rw (get_or-bit_bytes bits q 0 inside) (omega arith) in
    ap (λ v. eqb (v / 2 ^ (5 - r) % 2) 1) byte ∙ ap (λ v. eqb v 1) (bit_of_six bits (6 * q) r below ∙ ap (bit_value bits) there) ∙ as_bool (get_or bits k false)

-- so the bits are determined by their number and their bytes
pub same_bits : (x y : List Bool) → length x ≡ length y → bit_bytes x ≡ bit_bytes y → x ≡ y
same_bits x y len e = ext_get_or false x y len (λ k h.
    let inside : k < 6 * bytes_for (length x) = omega arith in
    let inside_too : k < 6 * bytes_for (length y) = omega arith in
    sym (bit_in-bit_bytes x k inside) ∙ ap (λ bytes. bit_in bytes k) e ∙ bit_in-bit_bytes y k inside_too)

-- m bits that the bytes hold
abbrev pub bits_in : ℕ → List ℕ → List Bool
bits_in m bytes = map (bit_in bytes) (range_with_len 0 m)

pub length-bits_in : (m : ℕ) (bytes : List ℕ) → length (bits_in m bytes) ≡ m
length-bits_in m bytes = length-map-range_with_len (bit_in bytes) 0 m

pub bit_at-bits_in : (m : ℕ) (bytes : List ℕ) (k : ℕ) → k < m → bit_at (bits_in m bytes) k ≡ bit_in bytes k
bit_at-bits_in m bytes k h = get_or-map-range_with_len (bit_in bytes) 0 m k k false h (omega arith)

-- the bytes hold six bits each, and past the first m bits there are zeros alone
pub record HoldsBits (m : ℕ) (bytes : List ℕ) : Type 0 where
  pub bytes_len : length bytes ≡ bytes_for m
  pub above : (q : ℕ) → q < length bytes → 63 ≤ get_or bytes q 0
  pub below : (q : ℕ) → q < length bytes → get_or bytes q 0 < 127
  pub padding : (k : ℕ) → m ≤ k → k < 6 * bytes_for m → bit_in bytes k ≡ false

as_value : (v : ℕ) → v < 2 → cond (eqb v 1) 1 0 ≡ v
as_value zero h = refl
as_value (suc zero) h = refl
as_value (suc (suc v)) h = absurd (omega arith)

-- the bit at place r of byte q
bit_of_byte : (m : ℕ) (bytes : List ℕ) → HoldsBits m bytes → (q r : ℕ) → q < length bytes → r < 6 → bit_value (bits_in m bytes) (6 * q + r) ≡ (get_or bytes q 0 - 63) / 2 ^ (5 - r) % 2
bit_of_byte m bytes holds q r inside below =
    let k = 6 * q + r in
    let quotient : k / 6 ≡ q = omega arith in
    let rest : k % 6 ≡ r = omega arith in
    let len = holds.bytes_len in
    let v = (get_or bytes q 0 - 63) / 2 ^ (5 - r) % 2 in
    let read : bit_in bytes k ≡ eqb v 1 = ap (λ i. eqb ((get_or bytes i 0 - 63) / 2 ^ (5 - k % 6) % 2) 1) quotient ∙ ap (λ i. eqb ((get_or bytes q 0 - 63) / 2 ^ (5 - i) % 2) 1) rest in
    let small : v < 2 = omega arith in
    let at : bit_at (bits_in m bytes) k ≡ bit_in bytes k = elim (cases_lt k m) [
      | inl early ↦ bit_at-bits_in m bytes k early
      | inr late ↦ get_or_past (bits_in m bytes) k false (omega (arith, length-bits_in m bytes)) ∙ sym (holds.padding k late (omega arith))
    ] in
    ap (λ b. cond b 1 0) (at ∙ read) ∙ as_value v small

byte_again : (m : ℕ) (bytes : List ℕ) → HoldsBits m bytes → (q : ℕ) → q < length bytes → six_bits (bits_in m bytes) (6 * q) + 63 ≡ get_or bytes q 0
byte_again m bytes holds q inside =
    let v = get_or bytes q 0 - 63 in
    let above = holds.above q inside in
    let below = holds.below q inside in
    let small : v < 64 = omega arith in
    let bit = bit_of_byte m bytes holds q in
    let first : bit_value (bits_in m bytes) (6 * q) ≡ v / 32 % 2 = ap (bit_value (bits_in m bytes)) (sym (add-zero (6 * q))) ∙ bit 0 inside (omega arith) in
    omega (arith, first, bit 1 inside (omega arith), bit 2 inside (omega arith), bit 3 inside (omega arith), bit 4 inside (omega arith), bit 5 inside (omega arith), all_bits v small)

-- such bytes are those of the bits that they hold
pub bit_bytes-bits_in : (m : ℕ) (bytes : List ℕ) → HoldsBits m bytes → bit_bytes (bits_in m bytes) ≡ bytes
bit_bytes-bits_in m bytes holds =
    let len : length (bit_bytes (bits_in m bytes)) ≡ length bytes = length-bit_bytes (bits_in m bytes) ∙ ap bytes_for (length-bits_in m bytes) ∙ sym holds.bytes_len in
    ext_get_or 0 _ _ len (λ q h.
    let inside : q < length bytes = omega arith in
    get_or-bit_bytes (bits_in m bytes) q 0 (rw (length-bits_in m bytes) (omega (arith, holds.bytes_len))) ∙ byte_again m bytes holds q inside)

-- and the bytes of a list of bits hold them
pub HoldsBits-bit_bytes : (bits : List Bool) → HoldsBits (length bits) (bit_bytes bits)
HoldsBits-bit_bytes bits = record {
  bytes_len = length-bit_bytes bits;
  above = λ q h. rw (get_or-bit_bytes bits q 0 (omega (arith, length-bit_bytes bits))) (omega arith);
  below = λ q h. rw (get_or-bit_bytes bits q 0 (omega (arith, length-bit_bytes bits))) (omega (arith, six_bits-lt bits (6 * q)));
  padding = λ k late h. bit_in-bit_bytes bits k h ∙ get_or_past bits k false late;
}
