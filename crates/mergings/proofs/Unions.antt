-- Masks with more members.
use Rattle.std.proofs.Common.{◌≡◌, ◌⊎◌, ℕ, ◌<◌, ◌≤◌, true, false, bit_and, inl, inr, ⊎_elim, ap, ◌∙◌, arith}
use Rattle.std.specs.Int.{bit_at}
use Rattle.std.specs.Int.Bits.{bit_or}
use Rattle.std.proofs.lemmas.Bool.{cases_lt, cases_Bool, both_ways}
use Rattle.std.proofs.lemmas.Nat.Bits.{bit_at_or, bit_at-lt, bit_at-zero}
use Rattle.visitors.specs.Masks.{is_member}
use Rattle.good_subsets.proofs.MaskBits.{member_bit, bit_member, member_common}

pub union_left : (a b c : ℕ) → is_member a c ≡ true → is_member (bit_or a b) c ≡ true
union_left a b c e = bit_member (bit_or a b) c (omega (arith, bit_at_or a b c, member_bit a c e, bit_at-lt b c))

pub union_right : (a b c : ℕ) → is_member b c ≡ true → is_member (bit_or a b) c ≡ true
union_right a b c e = bit_member (bit_or a b) c (omega (arith, bit_at_or a b c, member_bit b c e, bit_at-lt a c))

pub union_cases : (a b c : ℕ) → is_member (bit_or a b) c ≡ true → (is_member a c ≡ true) ⊎ (is_member b c ≡ true)
union_cases a b c e = ⊎_elim
    (λ (l : bit_at a c < 1).
    let one : bit_at b c ≡ 1 = omega (arith, l, bit_at_or a b c, member_bit (bit_or a b) c e, bit_at-lt b c) in
    inr (bit_member b c one))
    (λ (l : 1 ≤ bit_at a c). let one : bit_at a c ≡ 1 = omega (arith, l, bit_at-lt a c) in inl (bit_member a c one))
    (cases_lt (bit_at a c) 1)

pub union_none : (a b c : ℕ) → is_member (bit_or a b) c ≡ false → (is_member a c ≡ false) × (is_member b c ≡ false)
union_none a b c e = (
  ⊎_elim (λ t. absurd (both_ways _ e (union_left a b c t))) (λ f. f) (cases_Bool (is_member a c)),
  ⊎_elim (λ t. absurd (both_ways _ e (union_right a b c t))) (λ f. f) (cases_Bool (is_member b c)),
)

-- masks with no common part have no common member
pub no_common : (a b c : ℕ) → bit_and a b ≡ 0 → is_member a c ≡ true → is_member b c ≡ true → ⊥
no_common a b c z e f =
    let one = member_bit (bit_and a b) c (member_common a b c e f) in
    let none : bit_at (bit_and a b) c ≡ 0 = ap (λ m. bit_at m c) z ∙ bit_at-zero c in
    omega (arith, one, none)

pub no_members : (c : ℕ) → is_member 0 c ≡ true → ⊥
no_members c e = omega (arith, member_bit 0 c e, bit_at-zero c)
