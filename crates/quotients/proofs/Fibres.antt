-- Sums over points by the classes that they are in.
use Rattle.std.proofs.Common.{◌≡◌, ◌==◌, ℕ, suc, zero, ◌+◌, ◌*◌, ◌/◌, ◌<◌, count_by, sum_by, ⊎_elim, refl, sym, ap, ◌∙◌, arith}
use Rattle.std.proofs.lemmas.Bool.{cases_eq, cases_lt, eq-eqb, ne_eqb}
use Rattle.std.proofs.lemmas.Nat.{div-mul-add}
use Rattle.pair_colours.specs.Colouring.{points}
use Rattle.pair_colours.proofs.Counts.{unit_of, sum_by_add, sum_by_points_agree}
use Rattle.pair_colours.proofs.Measure.{sum_by_points_more}

-- a common factor
pub sum_by_times : (f : ℕ → ℕ) (h n : ℕ) → sum_by (λ z. f z * h) (points n) ≡ sum_by f (points n) * h
sum_by_times f h zero = omega arith
sum_by_times f h (suc n) =
    let more : sum_by f (points (suc n)) * h ≡ (sum_by f (points n) + f n) * h = ap (λ m. m * h) (sum_by_points_more f n) in
    let split : (sum_by f (points n) + f n) * h ≡ sum_by f (points n) * h + f n * h = omega arith in
    omega (arith, sum_by_points_more (λ z. f z * h) n, sum_by_times f h n, more, split)

sum_by_none : (n : ℕ) (f : ℕ → ℕ) → ((z : ℕ) → z < n → f z ≡ 0) → sum_by f (points n) ≡ 0
sum_by_none zero f h = refl
sum_by_none (suc n) f h = omega (arith, sum_by_points_more f n, sum_by_none n f (λ z l. h z (omega (arith, l))), h n (omega arith))

-- a sum in which one term alone counts
sum_by_one : (T : ℕ → ℕ) (k a : ℕ) → a < k → sum_by (λ r. T r * unit_of (a == r)) (points k) ≡ T a
sum_by_one T zero a l = absurd (omega (arith, l))
sum_by_one T (suc k) a l =
    let more = sum_by_points_more (λ r. T r * unit_of (a == r)) k in
    ⊎_elim
    (λ (e : a ≡ k).
    let one : unit_of (a == k) ≡ 1 = ap unit_of (eq-eqb a k e) in
    let last : T k * unit_of (a == k) ≡ T k * 1 = ap (λ m. T k * m) one in
    let same : T k ≡ T a = ap T (sym e) in
    let rest = sum_by_none k (λ r. T r * unit_of (a == r)) (λ z m.
    let no : unit_of (a == z) ≡ 0 = ap unit_of (ne_eqb a z (λ s. omega (arith, s, e, m))) in
    ap (λ x. T z * x) no ∙ times_none (T z)) in
    omega (arith, more, last, same, rest))
    (λ (ne : a ≡ k → ⊥).
    let low : a < k = ⊎_elim (λ b. b) (λ g. absurd (ne (omega (arith, g, l)))) (cases_lt a k) in
    let none : unit_of (a == k) ≡ 0 = ap unit_of (ne_eqb a k ne) in
    let last : T k * unit_of (a == k) ≡ T k * 0 = ap (λ m. T k * m) none in
    let zero_last = times_none (T k) in
    omega (arith, more, last, zero_last, sum_by_one T k a low))
    (cases_eq a k)
  where
    times_none : (m : ℕ) → m * 0 ≡ 0
    times_none m = omega arith

-- a sum over the points by the values of g below k
pub sum_fibres : (T g : ℕ → ℕ) (n k : ℕ) → ((z : ℕ) → z < n → g z < k)
    → sum_by (λ z. T (g z)) (points n) ≡ sum_by (λ r. T r * count_by (λ z. g z == r) (points n)) (points k)
sum_fibres T g zero k h = sym (sum_by_none k (λ r. T r * 0) (λ z l. omega arith))
sum_fibres T g (suc n) k h =
    let more = sum_by_points_more (λ z. T (g z)) n in
    let parts = sum_by_points_agree (λ r. T r * count_by (λ z. g z == r) (points (suc n))) (λ r. T r * count_by (λ z. g z == r) (points n) + T r * unit_of (g n == r)) k
    (λ r l. ap (λ m. T r * m) (sum_by_points_more (λ z. unit_of (g z == r)) n) ∙ spread (T r) (count_by (λ z. g z == r) (points n)) (unit_of (g n == r))) in
    let apart = sum_by_add (λ r. T r * count_by (λ z. g z == r) (points n)) (λ r. T r * unit_of (g n == r)) (points k) in
    omega (arith, more, parts, apart, sum_by_one T k (g n) (h n (omega arith)), sum_fibres T g n k (λ z l. h z (omega (arith, l))))
  where
    spread : (a b c : ℕ) → a * (b + c) ≡ a * b + a * c
    spread a b c = omega arith

-- equal products by a number above 0
pub same_factor : (a b h : ℕ) → 0 < h → a * h ≡ b * h → a ≡ b
same_factor a b h l e =
    let whole : (m : ℕ) → m * h / h ≡ m = λ m. let s : m * h ≡ m * h + 0 = omega arith in ap (λ x. x / h) s ∙ div-mul-add m h 0 l in
    sym (whole a) ∙ ap (λ x. x / h) e ∙ whole b
