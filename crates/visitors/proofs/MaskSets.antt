-- The sets below n are those of the masks below 2 to the power n.
use Rattle.std.proofs.Common.{◌≡◌, ◌==◌, ℕ, zero, suc, ◌+◌, ◌-◌, ◌*◌, ◌/◌, ◌%◌, ◌^◌, ◌<◌, ◌≤◌, Bool, true, false, cond, List, [], ◌∷◌, ◌++◌, length, map, filter, get_or, inl, inr, ⊎_elim, refl, sym, ap, subst, ◌∙◌, arith, append-nil, pow-suc}
use Rattle.std.proofs.lemmas.Bool.{cases_lt}
use Rattle.std.proofs.lemmas.Bool.Decides.{same_from_decides}
use Rattle.std.proofs.lemmas.List.{map-append}
use Rattle.std.proofs.lemmas.List.Elements.{filter-append}
use Rattle.std.proofs.lemmas.List.Sums.{length-filter, count_by-le-length}
use Rattle.std.proofs.lemmas.List.FromFn.{length-range_with_len}
use Rattle.std.proofs.lemmas.Nat.Bits.{bit_at_above, bit_at_cat_low, bit_at_cat_high}
use Rattle.pair_colours.specs.Colouring.{points}
use Rattle.pair_colours.specs.ColourSets.{is_in}
use Rattle.pair_colours.specs.Subsets.{subsets}
use Rattle.pair_colours.proofs.Counts.{points_more}
use Rattle.pair_colours.proofs.ListLemmas.{map-map, map_agree, Each-points, Each-weaker, filter_points_agree}
use Rattle.pair_colours.proofs.SortedLists.{In, In-points, In-points_from}
use Rattle.pair_colours.proofs.SubsetLemmas.{In-filter, In-filter_from, Decides-is_in, points_add}
use Rattle.visitors.specs.Entries.{IsEntry}
use Rattle.visitors.specs.Masks.{is_member, members_of, HasBits}

-- what passes a test below n, step by step
filter_more : (p : ℕ → Bool) (n : ℕ) → filter p (points (n + 1)) ≡ filter p (points n) ++ cond (p n) (n ∷ []) []
filter_more p n = ap (filter p) (points_more n) ∙ filter-append p (points n) (n ∷ [])

pub filter_yes : (p : ℕ → Bool) (n : ℕ) → p n ≡ true → filter p (points (n + 1)) ≡ filter p (points n) ++ n ∷ []
filter_yes p n e = filter_more p n ∙ ap (λ b. filter p (points n) ++ cond b (n ∷ []) []) e

pub filter_no : (p : ℕ → Bool) (n : ℕ) → p n ≡ false → filter p (points (n + 1)) ≡ filter p (points n)
filter_no p n e = filter_more p n ∙ ap (λ b. filter p (points n) ++ cond b (n ∷ []) []) e ∙ append-nil (filter p (points n))

-- the members of the set of a mask
pub member_in : (n mask c : ℕ) → c < n → is_member mask c ≡ true → In c (members_of n mask)
member_in n mask c l e = In-filter (is_member mask) (points n) c (In-points n c l) e

pub in_member : (n mask c : ℕ) → In c (members_of n mask) → (c < n) × (is_member mask c ≡ true)
in_member n mask c i = let r = In-filter_from (is_member mask) (points n) c i in (In-points_from n c r.1, r.0)

pub is_in-members_of : (n mask c : ℕ) → c < n → is_in (members_of n mask) c ≡ is_member mask c
is_in-members_of n mask c l = same_from_decides {P = In c (members_of n mask)} _ _ (Decides-is_in (members_of n mask) c) (λ e. member_in n mask c l e, λ i. (in_member n mask c i).1)

one_bit : (b : ℕ) → b ≡ 1 → (b == 1) ≡ true
one_bit b e = ap (λ t. t == 1) e

no_bit : (b : ℕ) → b ≡ 0 → (b == 1) ≡ false
no_bit b e = ap (λ t. t == 1) e

-- the bits of a number, and of a number with one bit more
not_above : (m n : ℕ) → m < 2 ^ n → is_member m n ≡ false
not_above m n l = no_bit _ (bit_at_above m n n l (omega arith))

top_bit : (m n : ℕ) → m < 2 ^ n → is_member (2 ^ n + m) n ≡ true
top_bit m n l =
    let e : 1 * 2 ^ n + m ≡ 2 ^ n + m = omega arith in
    let z : n - n ≡ 0 = omega arith in
    one_bit _ (ap (λ t. t / 2 ^ n % 2) (sym e) ∙ bit_at_cat_high 1 n m n l (omega arith) ∙ ap (λ t. 1 / 2 ^ t % 2) z)

low_bits : (m n c : ℕ) → c < n → is_member (2 ^ n + m) c ≡ is_member m c
low_bits m n c l =
    let e : 1 * 2 ^ n + m ≡ 2 ^ n + m = omega arith in
    ap (λ b. b == 1) (ap (λ t. t / 2 ^ c % 2) (sym e) ∙ bit_at_cat_low 1 n m c l)

members_below : (n m : ℕ) → m < 2 ^ n → members_of (suc n) m ≡ members_of n m
members_below n m l = let e : suc n ≡ n + 1 = omega arith in ap (λ k. members_of k m) e ∙ filter_no (is_member m) n (not_above m n l)

members_top : (n m : ℕ) → m < 2 ^ n → members_of (suc n) (2 ^ n + m) ≡ members_of n m ++ n ∷ []
members_top n m l =
    let e : suc n ≡ n + 1 = omega arith in
    ap (λ k. members_of k (2 ^ n + m)) e
    ∙ filter_yes (is_member (2 ^ n + m)) n (top_bit m n l)
    ∙ ap (λ s. s ++ n ∷ []) (filter_points_agree (is_member (2 ^ n + m)) (is_member m) n (λ c k. low_bits m n c k))

-- the sets of the masks are all sets, in the order of their bit numbers
pub subsets_masks : (n : ℕ) → map (members_of n) (points (2 ^ n)) ≡ subsets n
subsets_masks zero = refl
subsets_masks (suc n) =
    let p : ℕ = 2 ^ n in
    let again = subsets_masks n in
    let twice : 2 ^ suc n ≡ p + p = omega (arith, pow-suc 2 n) in
    ap (λ k. map (members_of (suc n)) (points k)) twice
    ∙ ap (map (members_of (suc n))) (points_add p p)
    ∙ map-append (members_of (suc n)) (points p) (map (λ i. p + i) (points p))
    ∙ (λ i. first i ++ second i)
    ∙ (λ i. again i ++ map (λ s. s ++ n ∷ []) (again i))
  where
    first : map (members_of (suc n)) (points (2 ^ n)) ≡ map (members_of n) (points (2 ^ n))
    first = map_agree (members_of (suc n)) (members_of n) (points (2 ^ n))
        (Each-weaker (λ m. m < 2 ^ n) (λ m. members_of (suc n) m ≡ members_of n m) (members_below n) (points (2 ^ n)) (Each-points (2 ^ n)))

    second : map (members_of (suc n)) (map (λ i. 2 ^ n + i) (points (2 ^ n))) ≡ map (λ s. s ++ n ∷ []) (map (members_of n) (points (2 ^ n)))
    second =
        map-map (members_of (suc n)) (λ i. 2 ^ n + i) (points (2 ^ n))
        ∙ map_agree (λ m. members_of (suc n) (2 ^ n + m)) (λ m. members_of n m ++ n ∷ []) (points (2 ^ n))
        (Each-weaker (λ m. m < 2 ^ n) (λ m. members_of (suc n) (2 ^ n + m) ≡ members_of n m ++ n ∷ []) (members_top n) (points (2 ^ n)) (Each-points (2 ^ n)))
        ∙ sym (map-map (λ s. s ++ n ∷ []) (members_of n) (points (2 ^ n)))

-- a mask that is built bit by bit
pub HasBits-none : (p : ℕ → Bool) → HasBits 0 0 p
HasBits-none p = record { low = omega arith; bits = λ c l. absurd (omega (arith, l)) }

pub HasBits-yes : (n mask : ℕ) (p : ℕ → Bool) → HasBits n mask p → p n ≡ true → HasBits (n + 1) (mask + 2 ^ n) p
HasBits-yes n mask p h e =
    let s : n + 1 ≡ suc n = omega arith in
    let t : 2 ^ n + mask ≡ mask + 2 ^ n = omega arith in
    let twice : 2 ^ suc n ≡ 2 ^ n + 2 ^ n = omega (arith, pow-suc 2 n) in
    record {
      low = subst (λ k. mask + 2 ^ n < 2 ^ k) (sym s) (omega (arith, twice, h.low));
      bits = λ c l. ⊎_elim
          (λ (m : c < n). ap (λ k. is_member k c) (sym t) ∙ low_bits mask n c m ∙ h.bits c m)
          (λ (m : n ≤ c). let same : c ≡ n = omega (arith, l, m) in ap (is_member (mask + 2 ^ n)) same ∙ ap (λ k. is_member k n) (sym t) ∙ top_bit mask n h.low ∙ sym (ap p same ∙ e))
          (cases_lt c n);
    }

pub HasBits-no : (n mask : ℕ) (p : ℕ → Bool) → HasBits n mask p → p n ≡ false → HasBits (n + 1) mask p
HasBits-no n mask p h e =
    let s : n + 1 ≡ suc n = omega arith in
    let twice : 2 ^ suc n ≡ 2 ^ n + 2 ^ n = omega (arith, pow-suc 2 n) in
    record {
      low = subst (λ k. mask < 2 ^ k) (sym s) (omega (arith, twice, h.low));
      bits = λ c l. ⊎_elim
          (λ (m : c < n). h.bits c m)
          (λ (m : n ≤ c). let same : c ≡ n = omega (arith, l, m) in ap (is_member mask) same ∙ not_above mask n h.low ∙ sym (ap p same ∙ e))
          (cases_lt c n);
    }

length-filter_at_most : (p : ℕ → Bool) (n : ℕ) → length (filter p (points n)) ≤ n
length-filter_at_most p n = omega (arith, length-filter p (points n), count_by-le-length p (points n), length-range_with_len 0 n)

pub In-place : (xs : List ℕ) (k d : ℕ) → k < length xs → In (get_or xs k d) xs
In-place [] k d l = absurd (omega (arith, l))
In-place (x ∷ xs) zero d l = inl refl
In-place (x ∷ xs) (suc k) d l = inr (In-place xs k d (omega (arith, l)))

-- a set with a colour may be met
pub IsEntry-members : (n mask c : ℕ) → n ≤ 16 → c < n → is_member mask c ≡ true → IsEntry (members_of n mask)
IsEntry-members n mask c small l e = record {
  some = has_one (members_of n mask) (member_in n mask c l e);
  width = omega (arith, length-filter_at_most (is_member mask) n, small);
  numbers = λ k d m. omega (arith, (in_member n mask (get_or (members_of n mask) k d) (In-place (members_of n mask) k d m)).0, small);
}
  where
    has_one : (xs : List ℕ) → In c xs → 1 ≤ length xs
    has_one [] i = absurd i
    has_one (x ∷ xs) i = omega arith
