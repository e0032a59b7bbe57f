-- Counts and sums over the points below n.
use Rattle.std.proofs.Common.{◌≡◌, ◌==◌, ◌&&◌, ℕ, suc, zero, ◌+◌, ◌*◌, ◌<◌, Bool, true, false, cond, count_by, sum_by, refl, sym, ap, ◌∙◌, arith}
use Rattle.pair_colours.specs.Colouring.{points}
use Rattle.pair_colours.proofs.Counts.{unit_of, sum_by_points_agree}
use Rattle.pair_colours.proofs.Measure.{sum_by_points_more}
use Rattle.pair_colours.proofs.SingleCounts.{count_single}

-- a sum of sums
pub sum_add : (f g : ℕ → ℕ) (n : ℕ) → sum_by (λ k. f k + g k) (points n) ≡ sum_by f (points n) + sum_by g (points n)
sum_add f g zero = refl
sum_add f g (suc n) = omega (arith, sum_add f g n, sum_by_points_more f n, sum_by_points_more g n, sum_by_points_more (λ k. f k + g k) n)

-- a sum of zeros
pub sum_zero : (n : ℕ) → sum_by (λ _. 0) (points n) ≡ 0
sum_zero zero = refl
sum_zero (suc n) = omega (arith, sum_zero n, sum_by_points_more (λ _. 0) n)

-- one number below n is a
one_hit : (a n : ℕ) → a < n → sum_by (λ k. unit_of (a == k)) (points n) ≡ 1
one_hit a n l = sum_by_points_agree (λ k. unit_of (a == k)) (λ k. unit_of ((a == k) && true)) n (λ k _. with_true (a == k)) ∙ count_single (λ _. true) a n l
  where
    with_true : (b : Bool) → unit_of b ≡ unit_of (b && true)
    with_true true = refl
    with_true false = refl

-- one pair of numbers below n is (a, b)
one_pair : (a b n : ℕ) → a < n → b < n → sum_by (λ i. sum_by (λ j. unit_of ((a == i) && (b == j))) (points n)) (points n) ≡ 1
one_pair a b n ha hb = sum_by_points_agree (λ i. sum_by (λ j. unit_of ((a == i) && (b == j))) (points n)) (λ i. unit_of (a == i)) n (λ i _. by (a == i)) ∙ one_hit a n ha
  where
    by : (t : Bool) → sum_by (λ j. unit_of (t && (b == j))) (points n) ≡ unit_of t
    by true = one_hit b n hb
    by false = sum_zero n

-- counts of two tests over all pairs of values take in each point once
pub all_counted : (f g : ℕ → ℕ) (r n : ℕ) → ((z : ℕ) → z < n → (f z < r) × (g z < r))
    → sum_by (λ i. sum_by (λ j. count_by (λ z. (f z == i) && (g z == j)) (points n)) (points r)) (points r) ≡ n
all_counted f g r zero h = sum_by_points_agree (λ i. sum_by (λ j. 0) (points r)) (λ _. 0) r (λ i _. sum_zero r) ∙ sum_zero r
all_counted f g r (suc n) h =
    let again = all_counted f g r n (λ z l. h z (omega (arith, l))) in
    let here = h n (omega arith) in
    let count : ℕ → ℕ → ℕ = λ i j. count_by (λ z. (f z == i) && (g z == j)) (points n) in
    let unit : ℕ → ℕ → ℕ = λ i j. unit_of ((f n == i) && (g n == j)) in
    let rows : (i : ℕ) → sum_by (λ j. count_by (λ z. (f z == i) && (g z == j)) (points (suc n))) (points r) ≡ sum_by (count i) (points r) + sum_by (unit i) (points r) = λ i.
    sum_by_points_agree (λ j. count_by (λ z. (f z == i) && (g z == j)) (points (suc n))) (λ j. count i j + unit i j) r (λ j _. sum_by_points_more (λ z. unit_of ((f z == i) && (g z == j))) n)
    ∙ sum_add (count i) (unit i) r in
    sum_by_points_agree (λ i. sum_by (λ j. count_by (λ z. (f z == i) && (g z == j)) (points (suc n))) (points r)) (λ i. sum_by (count i) (points r) + sum_by (unit i) (points r)) r (λ i _. rows i)
    ∙ sum_add (λ i. sum_by (count i) (points r)) (λ i. sum_by (unit i) (points r)) r
    ∙ omega (arith, again, one_pair (f n) (g n) r here.0 here.1)

-- a sum that is v at each point that passes, and 0 elsewhere
pub sum_chosen : (t : ℕ → Bool) (f : ℕ → ℕ) (v n : ℕ) → ((z : ℕ) → z < n → f z ≡ cond (t z) v 0) → sum_by f (points n) ≡ count_by t (points n) * v
sum_chosen t f v zero h = omega arith
sum_chosen t f v (suc n) h =
    let again = sum_chosen t f v n (λ z l. h z (omega (arith, l))) in
    let here = h n (omega arith) in
    let more = sum_by_points_more f n in
    let count = sum_by_points_more (λ z. unit_of (t z)) n in
    by (t n) here count more again
  where
    by : (b : Bool) → f n ≡ cond b v 0 → count_by t (points (suc n)) ≡ count_by t (points n) + unit_of b
        → sum_by f (points (suc n)) ≡ sum_by f (points n) + f n → sum_by f (points n) ≡ count_by t (points n) * v → sum_by f (points (suc n)) ≡ count_by t (points (suc n)) * v
    by true here count more again = more ∙ (λ i. again i + here i) ∙ grown ∙ ap (λ c. c * v) (sym count)
      where
        grown : count_by t (points n) * v + v ≡ (count_by t (points n) + 1) * v
        grown = omega arith
    by false here count more again =
        let same : count_by t (points (suc n)) ≡ count_by t (points n) = omega (arith, count) in
        omega (arith, more, again, here) ∙ ap (λ c. c * v) (sym same)
