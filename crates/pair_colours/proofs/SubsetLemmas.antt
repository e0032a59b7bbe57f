-- The list of subsets holds each set once, in the order of their bit numbers.
use Rattle.std.proofs.Common.{◌≡◌, ◌==◌, ℕ, zero, suc, ◌+◌, ◌^◌, ◌<◌, ◌≤◌, Bool, true, false, cond, List, [], ◌∷◌, ◌++◌, length, map, filter, Decides, inl, inr, ⊎_elim, refl, sym, ap, subst, ◌∙◌, arith, append-nil, append_assoc, pow-suc}
use Rattle.std.proofs.lemmas.Bool.{cases_lt, eqb-true, eq-eqb, or_left, or_right, or_cases}
use Rattle.std.proofs.lemmas.List.{map-append, length_push, get_or_push, get_or_append_left}
use Rattle.std.proofs.lemmas.List.Elements.{All-push, All-weaker, All-contains, filter-append}
use Rattle.std.proofs.lemmas.List.Kept.{AllPairs-from_increasing}
use Rattle.std.proofs.lemmas.List.Sums.{sum_by_push}
use Rattle.pair_colours.specs.Colouring.{points}
use Rattle.pair_colours.specs.ColourSets.{is_in}
use Rattle.pair_colours.specs.Subsets.{subsets, bit_number, IsSetBelow, SubsetsAreAll}
use Rattle.pair_colours.specs.Those.{AreThose}
use Rattle.pair_colours.proofs.Counts.{points_more}
use Rattle.pair_colours.proofs.ListLemmas.{map-map}
use Rattle.pair_colours.proofs.SortedLists.{In, In_from_Contains, Contains_from_In, In-append_left, In-append_right, In-append_cases, In-map, In-map_from, In-points, Ordered, Ordered_from_pairs, Ordered-points, same_members}
use Rattle.pair_colours.proofs.ThoseLemmas.{those_filter, those_hold, those_has, those_in_order}

-- what passes a filter
passing : {X : Type 0} (p : X → Bool) (xs : List X) → AreThose (λ x. p x ≡ true) xs (filter p xs)
passing p xs = those_filter (λ x. p x ≡ true) p (λ x. (λ e. e, λ e. e)) xs

pub In-filter : {X : Type 0} (p : X → Bool) (xs : List X) (x : X) → In x xs → p x ≡ true → In x (filter p xs)
In-filter p xs x i e = those_has (λ x. p x ≡ true) xs (filter p xs) (passing p xs) x i e

pub In-filter_from : {X : Type 0} (p : X → Bool) (xs : List X) (x : X) → In x (filter p xs) → (p x ≡ true) × In x xs
In-filter_from p xs x i = those_hold (λ x. p x ≡ true) xs (filter p xs) (passing p xs) x i

pub Ordered-filter : {X : Type 0} (R : X → X → Type 0) (p : X → Bool) (xs : List X) → Ordered R xs → Ordered R (filter p xs)
Ordered-filter R p xs o = those_in_order R (λ x. p x ≡ true) xs (filter p xs) o (passing p xs)

-- rising lists with the same members are the same
pub same_rising : (xs ys : List ℕ) → Ordered (λ j k. j < k) xs → Ordered (λ j k. j < k) ys → ((c : ℕ) → In c xs → In c ys) → ((c : ℕ) → In c ys → In c xs) → xs ≡ ys
same_rising xs ys a b h k = same_members (λ j k. j < k) (λ c l. absurd (omega (arith, l))) (λ c d e l m. omega (arith, l, m)) xs ys a b h k

in_set : (set : List ℕ) (c : ℕ) → is_in set c ≡ true → In c set
in_set [] c h = cc
in_set (d ∷ set) c h = ⊎_elim (λ e. inl (sym (eqb-true d c e))) (λ r. inr (in_set set c r)) (or_cases (d == c) (is_in set c) h)

set_in : (set : List ℕ) (c : ℕ) → In c set → is_in set c ≡ true
set_in [] c h = absurd h
set_in (d ∷ set) c h = ⊎_elim (λ e. or_left (d == c) (is_in set c) (eq-eqb d c (sym e))) (λ i. or_right (d == c) (is_in set c) (set_in set c i)) h

-- the test of a set tells its members
pub Decides-is_in : (set : List ℕ) (c : ℕ) → Decides (is_in set c) (In c set)
Decides-is_in set c = (in_set set c, set_in set c)

-- a set of numbers below n is what of them is in it
pub set_is_filter : (n : ℕ) (set : List ℕ) → IsSetBelow n set → set ≡ filter (is_in set) (points n)
set_is_filter n set s = same_rising set (filter (is_in set) (points n))
    (Ordered_from_pairs (λ j k. j < k) set (AllPairs-from_increasing set s.rising))
    (Ordered-filter (λ j k. j < k) (is_in set) (points n) (Ordered-points n))
    (λ c i. In-filter (is_in set) (points n) c (In-points n c (All-contains (λ d. d < n) set c s.below (Contains_from_In set c i))) (set_in set c i))
    (λ c i. in_set set c (In-filter_from (is_in set) (points n) c i).0)

IsSetBelow-more : (n : ℕ) (set : List ℕ) → IsSetBelow n set → IsSetBelow (suc n) set
IsSetBelow-more n set s = record { rising = s.rising; below = All-weaker (λ c. c < n) (λ c. c < suc n) (λ c l. omega (arith, l)) set s.below }

IsSetBelow-push : (n : ℕ) (set : List ℕ) → IsSetBelow n set → IsSetBelow (suc n) (set ++ n ∷ [])
IsSetBelow-push n set s = record {
  rising = λ k l. ⊎_elim
      (λ (m : k + 1 < length set). omega (arith, s.rising k m, get_or_append_left set (n ∷ []) 0 k (omega (arith, m)), get_or_append_left set (n ∷ []) 0 (k + 1) m))
      (λ (m : length set ≤ k + 1).
      let e : length set ≡ k + 1 = omega (arith, l, m, length_push set n) in
      omega (arith, s.below k 0 (omega (arith, e)), get_or_append_left set (n ∷ []) 0 k (omega (arith, e)), get_or_push set n 0 (k + 1) e))
      (cases_lt (k + 1) (length set));
  below = All-push (λ c. c < suc n) set n (IsSetBelow-more n set s).below (omega arith);
}

pub subsets_below : (n : ℕ) (set : List ℕ) → In set (subsets n) → IsSetBelow n set
subsets_below zero set h = ⊎_elim
    (λ e. subst (IsSetBelow 0) (sym e) (record { rising = λ k l. absurd (omega (arith, l)); below = λ k d l. absurd (omega (arith, l)) }))
    (λ i. absurd i)
    h
subsets_below (suc n) set h = ⊎_elim
    (λ i. IsSetBelow-more n set (subsets_below n set i))
    (λ i. let r = In-map_from (λ s. s ++ n ∷ []) (subsets n) set i in subst (IsSetBelow (suc n)) (sym r.2) (IsSetBelow-push n r.0 (subsets_below n r.0 r.1)))
    (In-append_cases (subsets n) (map (λ s. s ++ n ∷ []) (subsets n)) set h)

-- what passes a test is a subset
pub filtered_listed : (p : ℕ → Bool) (n : ℕ) → In (filter p (points n)) (subsets n)
filtered_listed p zero = inl refl
filtered_listed p (suc n) =
    let again = filtered_listed p n in
    let e : suc n ≡ n + 1 = omega arith in
    let split : filter p (points (suc n)) ≡ filter p (points n) ++ filter p (n ∷ []) = ap (λ k. filter p (points k)) e ∙ ap (filter p) (points_more n) ∙ filter-append p (points n) (n ∷ []) in
    subst (λ s. In s (subsets (suc n))) (sym split) (by (p n) again)
  where
    by : (b : Bool) → In (filter p (points n)) (subsets n) → In (filter p (points n) ++ cond b (n ∷ []) []) (subsets (suc n))
    by true again = In-append_right (subsets n) (map (λ s. s ++ n ∷ []) (subsets n)) (filter p (points n) ++ n ∷ []) (In-map (λ s. s ++ n ∷ []) (subsets n) (filter p (points n)) again)
    by false again = In-append_left (subsets n) (map (λ s. s ++ n ∷ []) (subsets n)) (filter p (points n) ++ []) (subst (λ s. In s (subsets n)) (sym (append-nil (filter p (points n)))) again)

pub subsets_listed : (n : ℕ) (set : List ℕ) → IsSetBelow n set → In set (subsets n)
subsets_listed n set s = subst (λ l. In l (subsets n)) (sym (set_is_filter n set s)) (filtered_listed (is_in set) n)

-- points in two parts
pub points_add : (m k : ℕ) → points (m + k) ≡ points m ++ map (λ i. m + i) (points k)
points_add m zero = let e : m + 0 ≡ m = omega arith in ap points e ∙ sym (append-nil (points m))
points_add m (suc k) =
    let e : m + suc k ≡ m + k + 1 = omega arith in
    let f : suc k ≡ k + 1 = omega arith in
    ap points e
    ∙ points_more (m + k)
    ∙ ap (λ l. l ++ (m + k) ∷ []) (points_add m k)
    ∙ append_assoc (points m) (map (λ i. m + i) (points k)) ((m + k) ∷ [])
    ∙ ap (λ l. points m ++ l) (sym (map-append (λ i. m + i) (points k) (k ∷ [])) ∙ ap (map (λ i. m + i)) (sym (points_more k)) ∙ ap (λ n. map (λ i. m + i) (points n)) (sym f))

-- the subsets stand in the order of their bit numbers
subsets_in_order : (n : ℕ) → map bit_number (subsets n) ≡ points (2 ^ n)
subsets_in_order zero = refl
subsets_in_order (suc n) =
    let again = subsets_in_order n in
    let twice : 2 ^ n + 2 ^ n ≡ 2 ^ suc n = omega (arith, pow-suc 2 n) in
    map-append bit_number (subsets n) (map (λ s. s ++ n ∷ []) (subsets n))
    ∙ (λ i. again i ++ (map-map bit_number (λ s. s ++ n ∷ []) (subsets n)
    ∙ (λ j. map (λ s. pushed s j) (subsets n))
    ∙ sym (map-map (λ k. 2 ^ n + k) bit_number (subsets n))
    ∙ ap (map (λ k. 2 ^ n + k)) again) i)
    ∙ sym (points_add (2 ^ n) (2 ^ n))
    ∙ ap points twice
  where
    pushed : (s : List ℕ) → bit_number (s ++ n ∷ []) ≡ 2 ^ n + bit_number s
    pushed s = sum_by_push (λ c. 2 ^ c) s n ∙ omega arith

pub subsets_are_all : SubsetsAreAll
subsets_are_all = record {
  all = λ n set. (λ h. subsets_below n set (In_from_Contains (subsets n) set h), λ s. Contains_from_In (subsets n) set (subsets_listed n set s));
  in_order = subsets_in_order;
}
