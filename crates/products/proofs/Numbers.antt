-- Two numbers of any size as one.
use Rattle.std.proofs.Common.{◌≡◌, ℕ, ◌+◌, ◌*◌, ◌<◌, ◌≤◌, ⊎_elim, sym, ap, arith}
use Rattle.std.proofs.lemmas.Bool.{cases_lt}
use Rattle.std.proofs.lemmas.Nat.{mul-le}

-- the square of the sum, and how far behind it: no further than to the next square
abbrev pub number_of : ℕ × ℕ → ℕ
number_of w = (w.0 + w.1) * (w.0 + w.1) + w.1

-- numbers behind different squares are different
sums_apart : (s t b d : ℕ) → b ≤ s → s < t → s * s + b ≡ t * t + d → ⊥
sums_apart s t b d lb l e =
    let next : (s + 1) * (s + 1) ≤ t * t = mul-le (s + 1) (s + 1) t t (omega (arith, l)) (omega (arith, l)) in
    let square : (s + 1) * (s + 1) ≡ s * s + s + s + 1 = omega arith in
    omega (arith, next, square, e, lb)

sums_same : (s t b d : ℕ) → b ≤ s → d ≤ t → s * s + b ≡ t * t + d → s ≡ t
sums_same s t b d lb ld e =
    ⊎_elim (λ l. absurd (sums_apart s t b d lb l e))
    (λ g. ⊎_elim (λ l. absurd (sums_apart t s d b ld l (sym e))) (λ h. omega (arith, g, h)) (cases_lt t s))
    (cases_lt s t)

pub number_of-one : (v w : ℕ × ℕ) → number_of v ≡ number_of w → v ≡ w
number_of-one v w e =
    let s : v.0 + v.1 ≡ w.0 + w.1 = sums_same (v.0 + v.1) (w.0 + w.1) v.1 w.1 (omega arith) (omega arith) e in
    let q : (v.0 + v.1) * (v.0 + v.1) ≡ (w.0 + w.1) * (w.0 + w.1) = ap (λ n. n * n) s in
    let second : v.1 ≡ w.1 = omega (arith, q, e) in
    let first : v.0 ≡ w.0 = omega (arith, s, second) in
    λ i. (first i, second i)
