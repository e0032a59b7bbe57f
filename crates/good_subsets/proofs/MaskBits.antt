-- Masks by their bits.
use Rattle.std.proofs.Common.{◌≡◌, ◌==◌, ◌⊎◌, min, ℕ, zero, suc, ◌/◌, ◌%◌, ◌^◌, ◌<◌, ◌≤◌, Bool, true, false, map, filter, bit_and, get_or, inl, inr, ⊎_elim, refl, sym, ap, ◌∙◌, arith}
use Rattle.std.specs.Int.{bit_at}
use Rattle.std.proofs.lemmas.Bool.{cases_lt, cases_Bool, eqb-true, eq-eqb, both_ways}
use Rattle.std.proofs.lemmas.List.FromFn.{get_or-range_with_len, get_or-map-range_with_len}
use Rattle.std.proofs.lemmas.Nat.Bits.{bit_at_above, bit_at_and, bit_at-lt, same_from_bits, same_from_bits_below}
use Rattle.pair_colours.specs.Colouring.{points}
use Rattle.pair_colours.specs.ColourSets.{is_in}
use Rattle.pair_colours.specs.Subsets.{bit_number, IsSetBelow}
use Rattle.pair_colours.proofs.ListLemmas.{map-map, filter_points_agree}
use Rattle.pair_colours.proofs.SubsetLemmas.{filtered_listed, subsets_below, subsets_are_all}
use Rattle.visitors.specs.Masks.{is_member, members_of, HasBits}
use Rattle.visitors.proofs.MaskSets.{is_in-members_of, subsets_masks}

-- bits below 2, and the lesser of two
pub both_one : (x y : ℕ) → x < 2 → y < 2 → min x y ≡ 1 → (x ≡ 1) × (y ≡ 1)
both_one x y l m e = (omega (arith, e, l), omega (arith, e, m))

pub member_bit : (m c : ℕ) → is_member m c ≡ true → bit_at m c ≡ 1
member_bit m c e = eqb-true _ 1 e

pub bit_member : (m c : ℕ) → bit_at m c ≡ 1 → is_member m c ≡ true
bit_member m c e = eq-eqb _ 1 e

-- a bit of both masks is one of their common part
pub common_members : (a b c : ℕ) → is_member (bit_and a b) c ≡ true → (is_member a c ≡ true) × (is_member b c ≡ true)
common_members a b c e =
    let r = both_one (bit_at a c) (bit_at b c) (bit_at-lt a c) (bit_at-lt b c) (sym (bit_at_and a b c) ∙ member_bit (bit_and a b) c e) in
    (bit_member a c r.0, bit_member b c r.1)

pub member_common : (a b c : ℕ) → is_member a c ≡ true → is_member b c ≡ true → is_member (bit_and a b) c ≡ true
member_common a b c e f = bit_member (bit_and a b) c (bit_at_and a b c ∙ (λ i. min (member_bit a c e i) (member_bit b c f i)))

-- a number below n that passes a test, or none
pub find_below : (p : ℕ → Bool) (n : ℕ) → ((c : ℕ) × (c < n) × (p c ≡ true)) ⊎ ((c : ℕ) → c < n → p c ≡ false)
find_below p zero = inr (λ c l. absurd (omega (arith, l)))
find_below p (suc n) = ⊎_elim
    (λ t. inl (n, omega arith, t))
    (λ f. ⊎_elim
    (λ r. inl (r.0, omega (arith, r.1), r.2))
    (λ none. inr (λ c l. ⊎_elim (none c) (λ (m : n ≤ c). let e : c ≡ n = omega (arith, l, m) in ap p e ∙ f) (cases_lt c n)))
    (find_below p n))
    (cases_Bool (p n))

no_bit : (m c : ℕ) → is_member m c ≡ false → bit_at m c ≡ 0
no_bit m c e = ⊎_elim
    (λ (l : bit_at m c < 1). omega (arith, l))
    (λ (l : 1 ≤ bit_at m c). let one : bit_at m c ≡ 1 = omega (arith, l, bit_at-lt m c) in absurd (both_ways _ e (bit_member m c one)))
    (cases_lt (bit_at m c) 1)

-- masks with a common part have a common colour
pub common_colour : (n a b : ℕ) → a < 2 ^ n → (bit_and a b ≡ 0 → ⊥) → (c : ℕ) × (c < n) × (is_member a c ≡ true) × (is_member b c ≡ true)
common_colour n a b l some = ⊎_elim
    (λ r. let m = common_members a b r.0 r.2 in (r.0, r.1, m.0, m.1))
    (λ none. absurd (some (same_from_bits (bit_and a b) 0 (λ i. ⊎_elim
    (λ (k : i < n). no_bit (bit_and a b) i (none i k) ∙ sym (bit_at_above 0 0 i (omega arith) (omega arith)))
    (λ (k : n ≤ i).
    let z : bit_at a i ≡ 0 = bit_at_above a n i l k in
    let w : min (bit_at a i) (bit_at b i) ≡ 0 = omega (arith, z) in
    bit_at_and a b i ∙ w ∙ sym (bit_at_above 0 0 i (omega arith) (omega arith)))
    (cases_lt i n)))))
    (find_below (is_member (bit_and a b)) n)

-- the common part is the first mask where the second has each colour of it
pub common_whole : (n a b : ℕ) → a < 2 ^ n → ((c : ℕ) → c < n → is_member a c ≡ true → is_member b c ≡ true) → bit_and a b ≡ a
common_whole n a b l h = same_from_bits (bit_and a b) a (λ i. bit_at_and a b i ∙ ⊎_elim
    (λ (k : i < n). ⊎_elim
    (λ t. let one = member_bit a i t in let two = member_bit b i (h i k t) in omega (arith, one, two))
    (λ f. let z = no_bit a i f in omega (arith, z))
    (cases_Bool (is_member a i)))
    (λ (k : n ≤ i). let z : bit_at a i ≡ 0 = bit_at_above a n i l k in omega (arith, z))
    (cases_lt i n))

pub members_from_bits : (n mask : ℕ) (p : ℕ → Bool) → HasBits n mask p → members_of n mask ≡ filter p (points n)
members_from_bits n mask p h = filter_points_agree (is_member mask) p n h.bits

-- the members of a mask are a set
pub IsSetBelow-members : (n mask : ℕ) → IsSetBelow n (members_of n mask)
IsSetBelow-members n mask = subsets_below n (members_of n mask) (filtered_listed (is_member mask) n)

-- masks with the same members are the same
bit_from : (x y : ℕ) → x < 2 → y < 2 → (x == 1) ≡ (y == 1) → x ≡ y
bit_from zero zero l m e = refl
bit_from zero (suc zero) l m e = absurd (let z : false ≡ true = e in cc)
bit_from zero (suc (suc y)) l m e = absurd (omega (arith, m))
bit_from (suc zero) zero l m e = absurd (let z : true ≡ false = e in cc)
bit_from (suc zero) (suc zero) l m e = refl
bit_from (suc zero) (suc (suc y)) l m e = absurd (omega (arith, m))
bit_from (suc (suc x)) y l m e = absurd (omega (arith, l))

pub masks_same : (n a b : ℕ) → a < 2 ^ n → b < 2 ^ n → members_of n a ≡ members_of n b → a ≡ b
masks_same n a b la lb e = same_from_bits_below n a b la lb
    (λ i l. bit_from (a / 2 ^ i % 2) (b / 2 ^ i % 2) (bit_at-lt a i) (bit_at-lt b i) (sym (is_in-members_of n a i l) ∙ ap (λ s. is_in s i) e ∙ is_in-members_of n b i l))

-- a mask is the bit number of its members
pub bit_number-members : (n mask : ℕ) → mask < 2 ^ n → bit_number (members_of n mask) ≡ mask
bit_number-members n mask l =
    let f : ℕ → ℕ = λ m. bit_number (members_of n m) in
    sym (get_or-map-range_with_len f 0 (2 ^ n) mask mask 0 l (omega arith))
    ∙ ap (λ all. get_or all mask 0) (sym (map-map bit_number (members_of n) (points (2 ^ n))) ∙ ap (map bit_number) (subsets_masks n) ∙ subsets_are_all.in_order n)
    ∙ omega (arith, get_or-range_with_len 0 (2 ^ n) mask 0 l)
