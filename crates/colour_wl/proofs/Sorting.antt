use Rattle.std.proofs.Common.{◌≡◌, ◌==◌, ℕ, suc, ◌<◌, ◌≤◌, Bool, true, false, nat_le, List, [], ◌∷◌, refl, sym, subst, arith, if◌then◌else◌}
use Rattle.std.specs.List.{AllByRecursion}
use Rattle.std.specs.List.Sorted.{IsPermutation, IsNonDecreasing}
use Rattle.std.proofs.lemmas.Bool.{leb-true, leb-false, eqb-true, eq-eqb}
use Rattle.std.proofs.lemmas.List.Elements.{recursion_from_All, All-from_recursion, All-head, All-cons}
use Rattle.std.proofs.lemmas.List.Sorted.{IsPermutation-refl, IsPermutation-cons, IsPermutation-sym, IsPermutation-trans, IsPermutation-swap, All-permutation, sum_by-IsPermutation, length_permutation}
use Rattle.pair_colours.proofs.Counts.{count_by-cons, IsPermutation-from_counts}

-- a number put into a rising list
abbrev pub put_in_order : ℕ → List ℕ → List ℕ
put_in_order y [] = y ∷ []
put_in_order y (x ∷ xs) = if nat_le y x then y ∷ x ∷ xs else x ∷ put_in_order y xs

-- the numbers of a list in rising order
abbrev pub in_order : List ℕ → List ℕ
in_order [] = []
in_order (x ∷ xs) = put_in_order x (in_order xs)

-- a list that rises, by recursion
abbrev pub Rising : List ℕ → Type 0
Rising [] = Unit {0}
Rising (x ∷ xs) = AllByRecursion (λ y. x ≤ y) xs × Rising xs

at_least : (a b : ℕ) → b ≤ a → (xs : List ℕ) → AllByRecursion (λ y. a ≤ y) xs → AllByRecursion (λ y. b ≤ y) xs
at_least a b l [] h = tt
at_least a b l (x ∷ xs) h = (omega (arith, l, h.0), at_least a b l xs h.1)

-- what std says of a sorted list, by recursion
pub Rising-from_sorted : (xs : List ℕ) → IsNonDecreasing xs → Rising xs
Rising-from_sorted [] h = tt
Rising-from_sorted (x ∷ xs) h = (
  recursion_from_All (λ y. x ≤ y) xs (λ k d l. h 0 (suc k) d (omega arith) (omega (arith, l))),
  Rising-from_sorted xs (λ i j d l m. h (suc i) (suc j) d (omega (arith, l)) (omega (arith, m))),
)

-- lists of the same elements, but for their heads, which are one
tail_permutation : (x : ℕ) (xs ys : List ℕ) → IsPermutation (x ∷ xs) (x ∷ ys) → IsPermutation xs ys
tail_permutation x xs ys h =
    IsPermutation-from_counts (λ a b. a == b) eqb-true (λ a. eq-eqb a a refl) xs ys
    (λ w. omega (arith, count_by-cons (λ b. w == b) x xs, count_by-cons (λ b. w == b) x ys, sum_by-IsPermutation (λ b. if w == b then 1 else 0) (x ∷ xs) (x ∷ ys) h))

-- two rising lists of the same elements are one
pub rising_same : (xs ys : List ℕ) → IsPermutation xs ys → Rising xs → Rising ys → xs ≡ ys
rising_same [] [] h r s = refl
rising_same [] (y ∷ ys) h r s = absurd (omega (arith, length_permutation [] (y ∷ ys) h))
rising_same (x ∷ xs) [] h r s = absurd (omega (arith, length_permutation (x ∷ xs) [] h))
rising_same (x ∷ xs) (y ∷ ys) h r s =
    let low : x ≤ y = All-head (λ k. x ≤ k) y ys (All-permutation (λ k. x ≤ k) (x ∷ xs) (y ∷ ys) h (All-cons (λ k. x ≤ k) x xs (omega arith) (All-from_recursion (λ k. x ≤ k) xs r.0))) in
    let high : y ≤ x = All-head (λ k. y ≤ k) x xs (All-permutation (λ k. y ≤ k) (y ∷ ys) (x ∷ xs) (IsPermutation-sym (x ∷ xs) (y ∷ ys) h) (All-cons (λ k. y ≤ k) y ys (omega arith) (All-from_recursion (λ k. y ≤ k) ys s.0))) in
    let e : x ≡ y = omega (arith, low, high) in
    let t : IsPermutation xs ys = tail_permutation x xs ys (subst (λ k. IsPermutation (x ∷ xs) (k ∷ ys)) (sym e) h) in
    λ i. e i ∷ rising_same xs ys t r.1 s.1 i

swapped : (x y : ℕ) (xs : List ℕ) → IsPermutation (x ∷ y ∷ xs) (y ∷ x ∷ xs)
swapped x y xs = IsPermutation-swap (x ∷ y ∷ xs) (y ∷ x ∷ xs) 0 1 (omega arith) (omega arith) refl

pub IsPermutation-put_in_order : (y : ℕ) (xs : List ℕ) → IsPermutation (y ∷ xs) (put_in_order y xs)
IsPermutation-put_in_order y [] = IsPermutation-refl (y ∷ [])
IsPermutation-put_in_order y (x ∷ xs) = by (nat_le y x) (IsPermutation-put_in_order y xs)
  where
    by : (b : Bool) → IsPermutation (y ∷ xs) (put_in_order y xs) → IsPermutation (y ∷ x ∷ xs) (if b then y ∷ x ∷ xs else x ∷ put_in_order y xs)
    by true h = IsPermutation-refl (y ∷ x ∷ xs)
    by false h = IsPermutation-trans (y ∷ x ∷ xs) (x ∷ y ∷ xs) (x ∷ put_in_order y xs) (swapped y x xs) (IsPermutation-cons x (y ∷ xs) (put_in_order y xs) h)

pub IsPermutation-in_order : (xs : List ℕ) → IsPermutation xs (in_order xs)
IsPermutation-in_order [] = IsPermutation-refl []
IsPermutation-in_order (x ∷ xs) =
    IsPermutation-trans (x ∷ xs) (x ∷ in_order xs) (put_in_order x (in_order xs))
    (IsPermutation-cons x xs (in_order xs) (IsPermutation-in_order xs)) (IsPermutation-put_in_order x (in_order xs))

low_put : (b y : ℕ) → b ≤ y → (xs : List ℕ) → AllByRecursion (λ k. b ≤ k) xs → AllByRecursion (λ k. b ≤ k) (put_in_order y xs)
low_put b y l [] h = (l, tt)
low_put b y l (x ∷ xs) h = by (nat_le y x) (low_put b y l xs h.1)
  where
    by : (t : Bool) → AllByRecursion (λ k. b ≤ k) (put_in_order y xs) → AllByRecursion (λ k. b ≤ k) (if t then y ∷ x ∷ xs else x ∷ put_in_order y xs)
    by true r = (l, h)
    by false r = (h.0, r)

Rising-put_in_order : (y : ℕ) (xs : List ℕ) → Rising xs → Rising (put_in_order y xs)
Rising-put_in_order y [] h = (tt, tt)
Rising-put_in_order y (x ∷ xs) h = by (nat_le y x) refl (Rising-put_in_order y xs h.1)
  where
    by : (t : Bool) → nat_le y x ≡ t → Rising (put_in_order y xs) → Rising (if t then y ∷ x ∷ xs else x ∷ put_in_order y xs)
    by true e r = let l : y ≤ x = leb-true y x e in ((l, at_least x y l xs h.0), h)
    by false e r = let l : x < y = leb-false y x e in (low_put x y (omega (arith, l)) xs h.0, r)

pub Rising-in_order : (xs : List ℕ) → Rising (in_order xs)
Rising-in_order [] = tt
Rising-in_order (x ∷ xs) = Rising-put_in_order x (in_order xs) (Rising-in_order xs)

-- a rising list of the same elements is the list in order
pub in_order-rising : (xs ys : List ℕ) → IsPermutation xs ys → IsNonDecreasing ys → ys ≡ in_order xs
in_order-rising xs ys h s =
    rising_same ys (in_order xs)
    (IsPermutation-trans ys xs (in_order xs) (IsPermutation-sym xs ys h) (IsPermutation-in_order xs))
    (Rising-from_sorted ys s) (Rising-in_order xs)

-- lists of the same elements are one in order, and the other way round
pub in_order-same : (xs ys : List ℕ) → IsPermutation xs ys → in_order xs ≡ in_order ys
in_order-same xs ys h =
    rising_same (in_order xs) (in_order ys)
    (IsPermutation-trans (in_order xs) xs (in_order ys) (IsPermutation-sym xs (in_order xs) (IsPermutation-in_order xs))
    (IsPermutation-trans xs ys (in_order ys) h (IsPermutation-in_order ys)))
    (Rising-in_order xs) (Rising-in_order ys)

pub IsPermutation-from_in_order : (xs ys : List ℕ) → in_order xs ≡ in_order ys → IsPermutation xs ys
IsPermutation-from_in_order xs ys e =
    IsPermutation-trans xs (in_order xs) ys (IsPermutation-in_order xs)
    (subst (λ l. IsPermutation l ys) (sym e) (IsPermutation-sym ys (in_order ys) (IsPermutation-in_order ys)))
