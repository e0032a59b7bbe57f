-- Sums over the points of a product, and over the third points of a pair.
use Rattle.std.proofs.Common.{◌≡◌, ℕ, suc, zero, ◌+◌, ◌*◌, ◌/◌, ◌%◌, ◌<◌, List, [], ◌∷◌, map, sum_by, refl, sym, ap, ◌∙◌, arith}
use Rattle.std.proofs.lemmas.Nat.{div-mul-add, mod-mul-add}
use Rattle.std.proofs.lemmas.List.Sums.{sum_by-cons}
use Rattle.std.proofs.lemmas.List.Sorted.{sum_by-IsPermutation}
use Rattle.pair_colours.specs.Colouring.{PairColouring, colour_at, points}
use Rattle.pair_colours.specs.Closure.{Coherent}
use Rattle.pair_colours.proofs.Counts.{sum_by_add, sum_by_points_agree}
use Rattle.pair_colours.proofs.Measure.{sum_by_points_more}
use Rattle.pair_colours.proofs.Rounds.{sides, IsPermutation-sides}

sum_by-map : {X Y : Type 0} (f : Y → ℕ) (g : X → Y) (xs : List X) → sum_by f (map g xs) ≡ sum_by (λ x. f (g x)) xs
sum_by-map f g [] = refl
sum_by-map f g (x ∷ xs) = sum_by-cons f (g x) (map g xs) ∙ ap (λ n. f (g x) + n) (sum_by-map f g xs) ∙ sym (sum_by-cons (λ y. f (g y)) x xs)

-- on alike pairs of a coherent colouring, a sum over the third points of what depends on the two other colours is the same
pub sum_sides : (Q : PairColouring) → Coherent Q → (F : ℕ → ℕ → ℕ) (x y u v : ℕ) → x < Q.size → y < Q.size → u < Q.size → v < Q.size
    → colour_at Q x y ≡ colour_at Q u v
    → sum_by (λ z. F (colour_at Q x z) (colour_at Q z y)) (points Q.size) ≡ sum_by (λ z. F (colour_at Q u z) (colour_at Q z v)) (points Q.size)
sum_sides Q h F x y u v hx hy hu hv e =
    let pair : ℕ × ℕ → ℕ = λ w. F w.0 w.1 in
    sym (sum_by-map pair (λ z. (colour_at Q x z, colour_at Q z y)) (points Q.size))
    ∙ sym (sum_by-IsPermutation pair (sides Q x y) (sides Q u v) (IsPermutation-sides Q x y u v (h.constant_triangles x y u v hx hy hu hv e)))
    ∙ sum_by-map pair (λ z. (colour_at Q u z, colour_at Q z v)) (points Q.size)

-- a sum over the points below a + k is one over those below a and one over the k others
sum_split : (f : ℕ → ℕ) (a k : ℕ) → sum_by f (points (a + k)) ≡ sum_by f (points a) + sum_by (λ w. f (a + w)) (points k)
sum_split f a zero =
    let same : a + 0 ≡ a = omega arith in
    let ends : sum_by f (points (a + 0)) ≡ sum_by f (points a) = ap (λ n. sum_by f (points n)) same in
    omega (arith, ends)
sum_split f a (suc k) =
    let m : a + suc k ≡ suc (a + k) = omega arith in
    let left : sum_by f (points (a + suc k)) ≡ sum_by f (points (a + k)) + f (a + k) = ap (λ n. sum_by f (points n)) m ∙ sum_by_points_more f (a + k) in
    omega (arith, left, sum_split f a k, sum_by_points_more (λ w. f (a + w)) k)

sum_by_zero : (n : ℕ) → sum_by (λ z. 0) (points n) ≡ 0
sum_by_zero zero = refl
sum_by_zero (suc n) = omega (arith, sum_by_points_more (λ z. 0) n, sum_by_zero n)

-- a sum over the points z * m + w of a product goes over w and then over z
pub sum_grid : (f : ℕ → ℕ → ℕ) (n m : ℕ)
    → sum_by (λ p. f (p / m) (p % m)) (points (n * m)) ≡ sum_by (λ w. sum_by (λ z. f z w) (points n)) (points m)
sum_grid f zero m =
    let none : 0 * m ≡ 0 = omega arith in
    ap (λ k. sum_by (λ p. f (p / m) (p % m)) (points k)) none ∙ sym (sum_by_zero m)
sum_grid f (suc n) m =
    let size : suc n * m ≡ n * m + m = omega arith in
    let row = sum_by_points_agree (λ w. f ((n * m + w) / m) ((n * m + w) % m)) (λ w. f n w) m
    (λ w l. λ i. f (div-mul-add n m w l i) (mod-mul-add n m w l i)) in
    let columns = sum_by_points_agree (λ w. sum_by (λ z. f z w) (points (suc n))) (λ w. sum_by (λ z. f z w) (points n) + f n w) m
    (λ w l. sum_by_points_more (λ z. f z w) n) in
    ap (λ k. sum_by (λ p. f (p / m) (p % m)) (points k)) size
    ∙ sum_split (λ p. f (p / m) (p % m)) (n * m) m
    ∙ (λ i. sum_grid f n m i + row i)
    ∙ sym (columns ∙ sum_by_add (λ w. sum_by (λ z. f z w) (points n)) (λ w. f n w) (points m))
