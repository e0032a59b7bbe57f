-- Counts over the points of a test that one point passes at most.
use Rattle.std.proofs.Common.{◌≡◌, ◌==◌, ◌&&◌, ℕ, suc, zero, ◌<◌, ◌≤◌, Bool, count_by, ⊎_elim, refl, ap, arith}
use Rattle.std.proofs.lemmas.Bool.{cases_lt, eq-eqb, ne_eqb}
use Rattle.pair_colours.specs.Colouring.{points}
use Rattle.pair_colours.proofs.Counts.{unit_of}
use Rattle.pair_colours.proofs.Measure.{sum_by_points_more}

-- a number that is none of the points is not counted
pub count_none : (p : ℕ → Bool) (c n : ℕ) → n ≤ c → count_by (λ z. (c == z) && p z) (points n) ≡ 0
count_none p c zero l = refl
count_none p c (suc n) l =
    omega (arith, sum_by_points_more (λ z. unit_of ((c == z) && p z)) n, count_none p c n (omega (arith, l)), ap (λ t. unit_of (t && p n)) (ne_eqb c n (λ e. omega (arith, e, l))))

-- and one that is a point is counted once, if it passes
pub count_single : (p : ℕ → Bool) (c n : ℕ) → c < n → count_by (λ z. (c == z) && p z) (points n) ≡ unit_of (p c)
count_single p c zero l = absurd (omega (arith, l))
count_single p c (suc n) l =
    let more = sum_by_points_more (λ z. unit_of ((c == z) && p z)) n in
    ⊎_elim
    (λ (m : c < n). omega (arith, more, count_single p c n m, ap (λ t. unit_of (t && p n)) (ne_eqb c n (λ e. omega (arith, e, m)))))
    (λ (m : n ≤ c).
    let e : c ≡ n = omega (arith, l, m) in
    omega (arith, more, count_none p c n m, ap (λ t. unit_of (t && p n)) (eq-eqb c n e), ap (λ z. unit_of (p z)) e))
    (cases_lt c n)
