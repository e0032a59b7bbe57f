-- Searches below a bound; which points the paths of a relation reach from a point, and in how few steps.
use Rattle.std.proofs.Common.{◌≡◌, ◌==◌, ◌&&◌, ◌||◌, ℕ, suc, zero, ◌<◌, ◌≤◌, Bool, true, false, count_by, Decides, ◌⊎◌, inl, inr, ⊎_elim, sym, ap, subst, ◌∙◌, arith}
use Rattle.std.specs.List.{list_any}
use Rattle.std.proofs.lemmas.Bool.{cases_lt, cases_Bool, eq-eqb, eqb-true, and_parts, and_from, or_cases, or_left, or_right, both_ways}
use Rattle.std.proofs.lemmas.List.FromFn.{get_or-range_with_len, length-range_with_len}
use Rattle.std.proofs.lemmas.List.Folds.{Any-from_list_any}
use Rattle.std.proofs.lemmas.List.Sums.{count_by-le-length}
use Rattle.pair_colours.specs.Colouring.{points}
use Rattle.pair_colours.proofs.Counts.{unit_of}
use Rattle.pair_colours.proofs.ListLemmas.{list_any-points}
use Rattle.pair_colours.proofs.Measure.{sum_by_points_same}

-- k is the first number below n that passes a test
pub record IsFirstBelow (test : ℕ → Bool) (n k : ℕ) : Type 0 where
  pub low : k < n
  pub passes : test k ≡ true
  pub before : (j : ℕ) → j < k → test j ≡ false

pub first_below : (test : ℕ → Bool) (n : ℕ) → ((k : ℕ) × IsFirstBelow test n k) ⊎ ((k : ℕ) → k < n → test k ≡ false)
first_below test zero = inr (λ k l. absurd (omega (arith, l)))
first_below test (suc n) = ⊎_elim
    (λ s. inl (s.0, record { low = omega (arith, s.1.low); passes = s.1.passes; before = s.1.before }))
    (λ none. ⊎_elim
    (λ t. inl (n, record { low = omega arith; passes = t; before = none }))
    (λ f. inr (λ k l. ⊎_elim (λ (m : k < n). none k m) (λ (m : n ≤ k). let e : k ≡ n = omega (arith, l, m) in ap test e ∙ f) (cases_lt k n)))
    (cases_Bool (test n)))
    (first_below test n)

-- where each number below n has one of two properties, all have the first, or some number has the second
pub each_below : (P Q : ℕ → Type 0) (n : ℕ) → ((k : ℕ) → k < n → P k ⊎ Q k) → ((k : ℕ) → k < n → P k) ⊎ ((k : ℕ) × (k < n) × Q k)
each_below P Q zero h = inl (λ k l. absurd (omega (arith, l)))
each_below P Q (suc n) h = ⊎_elim
    (λ all. ⊎_elim
    (λ p. inl (λ k l. ⊎_elim (λ (m : k < n). all k m) (λ (m : n ≤ k). let e : n ≡ k = omega (arith, l, m) in subst P e p) (cases_lt k n)))
    (λ q. inr (n, omega arith, q))
    (h n (omega arith)))
    (λ s. inr (s.0, omega (arith, s.1), s.2))
    (each_below P Q n (λ k l. h k (omega (arith, l))))

-- so a property that each number below n has or lacks, all of them have, or not all
pub all_below : (P : ℕ → Type 0) (n : ℕ) → ((k : ℕ) → k < n → P k ⊎ ¬ P k) → ((k : ℕ) → k < n → P k) ⊎ ¬ ((k : ℕ) → k < n → P k)
all_below P n h = ⊎_elim (λ all. inl all) (λ s. inr (λ all. s.2 (all s.0 s.1))) (each_below P (λ k. ¬ P k) n h)

-- a point that passes, where some point does
pub point_from_any : (test : ℕ → Bool) (n : ℕ) → list_any test (points n) ≡ true → (z : ℕ) × (z < n) × (test z ≡ true)
point_from_any test n h =
    let a = Any-from_list_any test (points n) h in
    let l : a.0 < n = omega (arith, a.2, length-range_with_len 0 n) in
    let at : a.1 ≡ a.0 = omega (arith, a.3, get_or-range_with_len 0 n a.0 a.1 l) in
    (a.0, l, ap test (sym at) ∙ a.4)

-- a path of so many steps from a to y, each step from a point below n
abbrev pub PathOf : (ℕ → ℕ → Bool) → ℕ → ℕ → ℕ → ℕ → Type 0
PathOf edge n a zero y = a ≡ y
PathOf edge n a (suc m) y = (z : ℕ) × (z < n) × PathOf edge n a m z × (edge z y ≡ true)

-- whether a path of at most so many steps leads from a to y
abbrev pub reaches : (ℕ → ℕ → Bool) → ℕ → ℕ → ℕ → ℕ → Bool
reaches edge n a zero y = a == y
reaches edge n a (suc m) y = reaches edge n a m y || list_any (λ z. reaches edge n a m z && edge z y) (points n)

-- one step more reaches no other point
pub record IsComplete (edge : ℕ → ℕ → Bool) (n a m : ℕ) : Type 0 where
  pub same : (y : ℕ) → y < n → reaches edge n a (suc m) y ≡ true → reaches edge n a m y ≡ true

-- d is the least number of steps of a path from a to y
pub record IsLeastPath (edge : ℕ → ℕ → Bool) (n a y d : ℕ) : Type 0 where
  pub path : PathOf edge n a d y
  pub small : d < n
  pub least : (k : ℕ) → PathOf edge n a k y → d ≤ k

module _ (edge : ℕ → ℕ → Bool) (n a : ℕ) where
  reaches_more : (m y : ℕ) → reaches edge n a m y ≡ true → reaches edge n a (suc m) y ≡ true
  reaches_more m y h = or_left (reaches edge n a m y) (list_any (λ z. reaches edge n a m z && edge z y) (points n)) h

  reaches_step : (m z y : ℕ) → z < n → reaches edge n a m z ≡ true → edge z y ≡ true → reaches edge n a (suc m) y ≡ true
  reaches_step m z y hz h e =
      or_right (reaches edge n a m y) (list_any (λ w. reaches edge n a m w && edge w y) (points n))
      (list_any-points (λ w. reaches edge n a m w && edge w y) n z hz (and_from (reaches edge n a m z) (edge z y) h e))

  -- what is reached stays reached
  pub reaches_later : (k m y : ℕ) → k ≤ m → reaches edge n a k y ≡ true → reaches edge n a m y ≡ true
  reaches_later k zero y l h = let e : k ≡ zero = omega (arith, l) in subst (λ j. reaches edge n a j y ≡ true) e h
  reaches_later k (suc m) y l h = ⊎_elim
      (λ (b : k < suc m). reaches_more m y (reaches_later k m y (omega (arith, b)) h))
      (λ (b : suc m ≤ k). let e : k ≡ suc m = omega (arith, l, b) in subst (λ j. reaches edge n a j y ≡ true) e h)
      (cases_lt k (suc m))

  path_reaches : (m y : ℕ) → PathOf edge n a m y → reaches edge n a m y ≡ true
  path_reaches zero y p = eq-eqb a y p
  path_reaches (suc m) y p = reaches_step m p.0 y p.1 (path_reaches m p.0 p.2) p.3

  reaches_path : (m y : ℕ) → reaches edge n a m y ≡ true → (k : ℕ) × (k ≤ m) × PathOf edge n a k y
  reaches_path zero y h = (zero, omega arith, eqb-true a y h)
  reaches_path (suc m) y h = ⊎_elim
      (λ t. let r = reaches_path m y t in (r.0, omega (arith, r.1), r.2))
      (λ t.
      let s = point_from_any (λ z. reaches edge n a m z && edge z y) n t in
      let both = and_parts (reaches edge n a m s.0) (edge s.0 y) s.2 in
      let r = reaches_path m s.0 both.0 in
      (suc r.0, omega (arith, r.1), (s.0, s.1, r.2, both.1)))
      (or_cases (reaches edge n a m y) (list_any (λ z. reaches edge n a m z && edge z y) (points n)) h)

  -- the test is true exactly where a path of at most so many steps exists
  pub Decides-reaches : (m y : ℕ) → Decides (reaches edge n a m y) ((k : ℕ) × (k ≤ m) × PathOf edge n a k y)
  Decides-reaches m y = (reaches_path m y, λ p. reaches_later p.0 m y p.1 (path_reaches p.0 y p.2))

  -- where one step more adds nothing, no path reaches another point
  pub complete_reaches : (m : ℕ) → IsComplete edge n a m → (k y : ℕ) → y < n → PathOf edge n a k y → reaches edge n a m y ≡ true
  complete_reaches m c zero y hy p = reaches_later zero m y (omega arith) (eq-eqb a y p)
  complete_reaches m c (suc k) y hy p = c.same y hy (reaches_step m p.0 y p.1 (complete_reaches m c k p.0 p.1 p.2) p.3)

  -- how many points are reached
  abbrev reached_count : ℕ → ℕ
  reached_count m = count_by (λ y. reaches edge n a m y) (points n)

  reached_grows : (m y : ℕ) → unit_of (reaches edge n a m y) ≤ unit_of (reaches edge n a (suc m) y)
  reached_grows m y = ⊎_elim
      (λ t. omega (arith, ap unit_of t, ap unit_of (reaches_more m y t)))
      (λ f. omega (arith, ap unit_of f))
      (cases_Bool (reaches edge n a m y))

  -- a step more reaches more points, or adds nothing
  more_or_complete : (m : ℕ) → (reached_count m < reached_count (suc m)) ⊎ IsComplete edge n a m
  more_or_complete m = ⊎_elim
      (λ l. inl l)
      (λ l. inr (record {
        same = λ y hy t. ⊎_elim
            (λ s. s)
            (λ f.
            let units = sum_by_points_same (λ z. unit_of (reaches edge n a m z)) (λ z. unit_of (reaches edge n a (suc m) z)) n (λ z _. reached_grows m z) l y hy in
            absurd (omega (arith, units, ap unit_of f, ap unit_of t)))
            (cases_Bool (reaches edge n a m y));
      }))
      (cases_lt (reached_count m) (reached_count (suc m)))

  -- a itself is reached in no step
  one_reached : a < n → 0 < reached_count zero
  one_reached ha = ⊎_elim
      (λ l. l)
      (λ (l : reached_count zero ≤ 0).
      let units = sum_by_points_same (λ _. 0) (λ z. unit_of (reaches edge n a zero z)) n (λ z _. omega arith) (omega (arith, l)) a ha in
      absurd (omega (arith, units, ap unit_of (path_reaches zero a (λ _. a)))))
      (cases_lt 0 (reached_count zero))

  enough : a < n → (m : ℕ) → (m < reached_count m) ⊎ ((j : ℕ) × (j < m) × IsComplete edge n a j)
  enough ha zero = inl (one_reached ha)
  enough ha (suc m) = ⊎_elim
      (λ l. ⊎_elim (λ (more : reached_count m < reached_count (suc m)). inl (omega (arith, l, more))) (λ c. inr (m, omega arith, c)) (more_or_complete m))
      (λ s. inr (s.0, omega (arith, s.1), s.2))
      (enough ha m)

  -- with n points, fewer than n steps reach all that any path reaches
  pub complete_before : a < n → (j : ℕ) × (j < n) × IsComplete edge n a j
  complete_before ha = ⊎_elim
      (λ (l : n < reached_count n). absurd (omega (arith, l, count_by-le-length (λ y. reaches edge n a n y) (points n), length-range_with_len 0 n)))
      (λ s. s)
      (enough ha n)

  -- so whether some path leads from a to y is decided
  pub Decides-path : a < n → (y : ℕ) → y < n → Decides (reaches edge n a n y) ((k : ℕ) × PathOf edge n a k y)
  Decides-path ha y hy =
      let c = complete_before ha in (
        λ t. let r = reaches_path n y t in (r.0, r.2),
        λ p. reaches_later c.0 n y (omega (arith, c.1)) (complete_reaches c.0 c.2 p.0 y hy p.1),
      )

  -- and the least number of its steps is found
  pub least_path : a < n → (y : ℕ) → y < n → ((d : ℕ) × IsLeastPath edge n a y d) ⊎ ((k : ℕ) → PathOf edge n a k y → ⊥)
  least_path ha y hy =
      let c = complete_before ha in
      ⊎_elim
      (λ f. inl (f.0, shortest f.0 f.1))
      (λ none. inr (λ k p. both_ways (reaches edge n a c.0 y) (none c.0 c.1) (complete_reaches c.0 c.2 k y hy p)))
      (first_below (λ m. reaches edge n a m y) n)
    where
      shortest : (d : ℕ) → IsFirstBelow (λ m. reaches edge n a m y) n d → IsLeastPath edge n a y d
      shortest d f =
          let least : (k : ℕ) → PathOf edge n a k y → d ≤ k = λ k p.
          ⊎_elim (λ (b : k < d). absurd (both_ways (reaches edge n a k y) (f.before k b) (path_reaches k y p))) (λ (b : d ≤ k). b) (cases_lt k d) in
          let r = reaches_path d y f.passes in
          let e : r.0 ≡ d = omega (arith, r.1, least r.0 r.2) in
          record { path = subst (λ k. PathOf edge n a k y) e r.2; small = f.low; least = least }
