-- What is met of filtered and of mapped lists, and the numbers below a bound met in their order.
use Rattle.std.proofs.Common.{◌≡◌, ◌==◌, ◌&&◌, ℕ, zero, suc, ◌+◌, ◌<◌, ◌≤◌, Bool, true, false, not, cond, nat_eq, List, [], ◌∷◌, ◌++◌, get_or, map, filter, ⊎_elim, refl, sym, ap, ◌∙◌, arith, if◌then◌else◌}
use Rattle.std.specs.List.{AllByRecursion, list_any, range_with_len, position_or_len}
use Rattle.std.proofs.lemmas.Bool.{cases_eq, eq-eqb, ne_eqb, eqb-true}
use Rattle.std.proofs.lemmas.List.{append_assoc, append-nil}
use Rattle.std.proofs.lemmas.List.Elements.{All-from_recursion}
use Rattle.std.proofs.lemmas.List.Folds.{list_any_none}
use Rattle.std.proofs.lemmas.List.FromFn.{get_or-range_with_len, length-range_with_len}
use Rattle.std.proofs.lemmas.List.Sums.{position_or_len_is}
use Rattle.indexmap.specs.IndexSet.{insert_key}
use Rattle.pair_colours.specs.Colouring.{points}
use Rattle.pair_colours.specs.Naming.{first_met}
use Rattle.pair_colours.proofs.Counts.{points_more}
use Rattle.pair_colours.proofs.ListLemmas.{Each-weaker, Each-points, list_any-points}
use Rattle.pair_colours.proofs.Walked.{first_met_push}

-- two filters in either order, and a filter that the other one makes idle
filter-filter : (p q : ℕ → Bool) (xs : List ℕ) → filter p (filter q xs) ≡ filter (λ x. q x && p x) xs
filter-filter p q [] = refl
filter-filter p q (x ∷ xs) = by (q x) (filter-filter p q xs)
  where
    by : (b : Bool) → filter p (filter q xs) ≡ filter (λ x. q x && p x) xs → filter p (cond b (x ∷ filter q xs) (filter q xs)) ≡ cond (b && p x) (x ∷ filter (λ x. q x && p x) xs) (filter (λ x. q x && p x) xs)
    by true again = ap (λ l. cond (p x) (x ∷ l) l) again
    by false again = again

filter_same : (p q : ℕ → Bool) → ((x : ℕ) → p x ≡ q x) → (xs : List ℕ) → filter p xs ≡ filter q xs
filter_same p q h xs = λ i. filter (λ x. h x i) xs

pub and_turned : (a b : Bool) → (a && b) ≡ (b && a)
and_turned true true = refl
and_turned true false = refl
and_turned false true = refl
and_turned false false = refl

filter_turned : (p q : ℕ → Bool) (xs : List ℕ) → filter p (filter q xs) ≡ filter q (filter p xs)
filter_turned p q xs = filter-filter p q xs ∙ filter_same (λ x. q x && p x) (λ x. p x && q x) (λ x. and_turned (q x) (p x)) xs ∙ sym (filter-filter q p xs)

filter_idle : (p : ℕ → Bool) (z : ℕ) → p z ≡ false → (xs : List ℕ) → filter p (filter (λ y. not (z == y)) xs) ≡ filter p xs
filter_idle p z e xs = filter-filter p (λ y. not (z == y)) xs ∙ filter_same (λ x. not (z == x) && p x) p (λ x. ⊎_elim (same x) (other x) (cases_eq z x)) xs
  where
    same : (x : ℕ) → z ≡ x → (not (z == x) && p x) ≡ p x
    same x s = ap (λ b. not b && p x) (eq-eqb z x s) ∙ sym e ∙ ap p s

    other : (x : ℕ) → (z ≡ x → ⊥) → (not (z == x) && p x) ≡ p x
    other x n = ap (λ b. not b && p x) (ne_eqb z x n)

-- a filter goes through what is met
pub first_met-filter : (p : ℕ → Bool) (zs : List ℕ) → filter p (first_met zs) ≡ first_met (filter p zs)
first_met-filter p [] = refl
first_met-filter p (z ∷ zs) = by (p z) refl (first_met-filter p zs)
  where
    by : (b : Bool) → p z ≡ b → filter p (first_met zs) ≡ first_met (filter p zs)
        → cond b (z ∷ filter p (filter (λ y. not (z == y)) (first_met zs))) (filter p (filter (λ y. not (z == y)) (first_met zs))) ≡ first_met (cond b (z ∷ filter p zs) (filter p zs))
    by true e again = ap (λ l. z ∷ l) (filter_turned p (λ y. not (z == y)) (first_met zs) ∙ ap (filter (λ y. not (z == y))) again)
    by false e again = filter_idle p z e (first_met zs) ∙ again

without_image : (f : ℕ → ℕ) (x : ℕ) (ys : List ℕ) → filter (λ y. not (f x == y)) (map f ys) ≡ filter (λ y. not (f x == y)) (map f (filter (λ y. not (x == y)) ys))
without_image f x [] = refl
without_image f x (y ∷ ys) = by (x == y) refl (without_image f x ys)
  where
    by : (b : Bool) → (x == y) ≡ b → filter (λ z. not (f x == z)) (map f ys) ≡ filter (λ z. not (f x == z)) (map f (filter (λ z. not (x == z)) ys))
        → cond (not (f x == f y)) (f y ∷ filter (λ z. not (f x == z)) (map f ys)) (filter (λ z. not (f x == z)) (map f ys))
        ≡ filter (λ z. not (f x == z)) (map f (cond (not b) (y ∷ filter (λ z. not (x == z)) ys) (filter (λ z. not (x == z)) ys)))
    by true e again = ap (λ b. cond (not b) (f y ∷ filter (λ z. not (f x == z)) (map f ys)) (filter (λ z. not (f x == z)) (map f ys))) (eq-eqb (f x) (f y) (ap f (eqb-true x y e))) ∙ again
    by false e again = ap (λ l. cond (not (f x == f y)) (f y ∷ l) l) again

-- what is met of the images is what is met of the images of what is met
pub first_met-map : (f : ℕ → ℕ) (xs : List ℕ) → first_met (map f xs) ≡ first_met (map f (first_met xs))
first_met-map f [] = refl
first_met-map f (x ∷ xs) =
    ap (λ l. f x ∷ l)
    (ap (filter (λ y. not (f x == y))) (first_met-map f xs)
    ∙ first_met-filter (λ y. not (f x == y)) (map f (first_met xs))
    ∙ ap first_met (without_image f x (first_met xs))
    ∙ sym (first_met-filter (λ y. not (f x == y)) (map f (filter (λ y. not (x == y)) (first_met xs)))))

-- no number from n on is a point
pub none_in_points : (v n : ℕ) → n ≤ v → list_any (nat_eq v) (points n) ≡ false
none_in_points v n l =
    list_any_none (nat_eq v) (points n)
    (All-from_recursion (λ y. nat_eq v y ≡ false) (points n)
    (Each-weaker (λ y. y < n) (λ y. nat_eq v y ≡ false) (λ y m. ne_eqb v y (λ e. omega (arith, e, m, l))) (points n) (Each-points n)))

-- a point stands at its own place
pub position_in_points : (n c : ℕ) → c < n → position_or_len (λ y. c == y) (points n) ≡ c
position_in_points n c l =
    position_or_len_is (λ y. c == y) (points n) c 0 (omega (arith, l, length-range_with_len 0 n))
    (λ k m. ne_eqb c (get_or (points n) k 0) (λ e. omega (arith, e, m, get_or-range_with_len 0 n k 0 (omega (arith, m, l)))))
    (λ m. eq-eqb c (get_or (points n) c 0) (omega (arith, get_or-range_with_len 0 n c 0 l)))

-- a number is met, or was met before
abbrev insert_into : List ℕ → ℕ → Bool → List ℕ
insert_into ks v met = if met then ks else (ks ++ v ∷ [])

-- further numbers below n add nothing to the numbers below n
pub met_known : (n : ℕ) (xs ys : List ℕ) → first_met xs ≡ points n → AllByRecursion (λ y. y < n) ys → first_met (xs ++ ys) ≡ points n
met_known n xs [] h a = ap first_met (append-nil xs) ∙ h
met_known n xs (y ∷ ys) h a =
    let pushed : first_met (xs ++ y ∷ []) ≡ points n =
    first_met_push xs y ∙ ap (λ ks. insert_key nat_eq ks y) h ∙ ap (insert_into (points n) y) (list_any-points (nat_eq y) n y a.0 (eq-eqb y y refl)) in
    ap first_met (sym (append_assoc xs (y ∷ []) ys)) ∙ met_known n (xs ++ y ∷ []) ys pushed a.1

-- and the numbers from n on are met in their order
pub met_next : (m n : ℕ) (xs : List ℕ) → first_met xs ≡ points n → first_met (xs ++ range_with_len n m) ≡ points (n + m)
met_next zero n xs h = let e : n ≡ n + 0 = omega arith in ap first_met (append-nil xs) ∙ h ∙ ap points e
met_next (suc m) n xs h =
    let pushed : first_met (xs ++ n ∷ []) ≡ points (n + 1) =
    first_met_push xs n ∙ ap (λ ks. insert_key nat_eq ks n) h ∙ ap (insert_into (points n) n) (none_in_points n n (omega arith)) ∙ sym (points_more n) in
    let e : n + 1 + m ≡ n + suc m = omega arith in
    ap first_met (sym (append_assoc xs (n ∷ []) (range_with_len (n + 1) m))) ∙ met_next m (n + 1) (xs ++ n ∷ []) pushed ∙ ap points e
