-- The numbers of points at given distances from two points of a distance-regular graph are those of the table of its array.
use Rattle.std.proofs.Common.{◌≡◌, ◌==◌, ◌&&◌, ◌⊎◌, inl, inr, ℕ, suc, zero, ◌+◌, ◌-◌, ◌*◌, ◌/◌, ◌<◌, ◌≤◌, Bool, true, false, cond, count_by, sum_by, ⊎_elim, refl, sym, ap, ◌∙◌, arith}
use Rattle.std.proofs.Math.Nat.{mul-div_cancel_left, add-sub_cancel_left}
use Rattle.std.proofs.lemmas.Bool.{cases_eq, cond-true, cond-false, eq-eqb, ne_eqb, and_from, and_left, and_right}
use Rattle.pair_colours.specs.Colouring.{points}
use Rattle.pair_colours.proofs.Counts.{unit_of, sum_by_points_agree, counted}
use Rattle.array_tables.specs.Parameters.{IntersectionArray, diameter_of, a_of, b_of, c_of, neighbour_sum, number_of, pairs_at, nearer_pairs_at}
use Rattle.array_tables.proofs.TableSums.{sum_scaled, sum_add3, sum_none, sum_hit, sums_exchanged, sum_within}
use Rattle.array_tables.proofs.LevelSums.{number_of-one}
use Rattle.array_tables.proofs.Neighbours.{IsRegular, neighbour_total}

turned_test : (m j : ℕ) → (m == j) ≡ (j == m)
turned_test m j = ⊎_elim
    (λ e. eq-eqb m j e ∙ sym (eq-eqb j m (sym e)))
    (λ ne. ne_eqb m j ne ∙ sym (ne_eqb j m (λ e. ne (sym e))))
    (cases_eq m j)

-- a test of two parts
both_units : (s t : Bool) → unit_of (s && t) ≡ cond s (unit_of t) 0
both_units true t = refl
both_units false t = refl

-- the same choices in another order
pub regrouped : (s t u : Bool) → cond s (unit_of (t && u)) 0 ≡ cond u (cond s (unit_of t) 0) 0
regrouped true true true = refl
regrouped true true false = refl
regrouped true false true = refl
regrouped true false false = refl
regrouped false true true = refl
regrouped false true false = refl
regrouped false false true = refl
regrouped false false false = refl

and_true : (s : Bool) → s ≡ (s && true)
and_true true = refl
and_true false = refl

missed : (m : ℕ) (s : Bool) → m * unit_of (s && false) ≡ 0
missed m s = ap (λ t. m * unit_of t) (and_right s false refl) ∙ omega arith

-- what the neighbours of a point at distance l count, where those at distance i + 1 count 1
module _ (A : IntersectionArray) (i : ℕ) where
  at_one : (f : ℕ → ℕ) (l m k : ℕ) → ((m ≡ suc i → l ≡ k) × (l ≡ k → m ≡ suc i)) → f l * unit_of (m == suc i) ≡ f k * unit_of (l == k)
  at_one f l m k h = ⊎_elim
      (λ (e : l ≡ k). (λ p. f (e p) * (ap unit_of (eq-eqb m (suc i) (h.1 e)) ∙ sym (ap unit_of (eq-eqb l k e))) p))
      (λ (ne : l ≡ k → ⊥).
      let left : f l * unit_of (m == suc i) ≡ f l * 0 = ap (λ s. f l * s) (ap unit_of (ne_eqb m (suc i) (λ e. ne (h.0 e)))) in
      let right : f k * unit_of (l == k) ≡ f k * 0 = ap (λ s. f k * s) (ap unit_of (ne_eqb l k ne)) in
      omega (arith, left, right))
      (cases_eq l k)

  pub weights : (l : ℕ) → neighbour_sum A (λ m. unit_of (m == suc i)) l
      ≡ a_of A (suc i) * unit_of (l == suc i) + b_of A i * unit_of (l == i) + c_of A (suc (suc i)) * unit_of (l == suc (suc i))
  weights l =
      let c = at_one (c_of A) l (l - 1) (suc (suc i)) ((λ e. omega (arith, e)), (λ e. omega (arith, e))) in
      let a = at_one (a_of A) l l (suc i) ((λ e. e), (λ e. e)) in
      let b = at_one (b_of A) l (l + 1) i ((λ e. omega (arith, e)), (λ e. omega (arith, e))) in
      omega (arith, c, a, b)

module _ (A : IntersectionArray) (n : ℕ) (D : ℕ → ℕ → ℕ) (r : IsRegular A n D) where
  -- how many points are at distance i from x and j from y
  abbrev pub joint : ℕ → ℕ → ℕ → ℕ → ℕ
  joint x y i j = count_by (λ z. (D x z == i) && (D z y == j)) (points n)

  -- at level i these are the numbers of the table
  pub record LevelIs (i : ℕ) : Type 0 where
    pub is : (x y j : ℕ) → x < n → y < n → joint x y i j ≡ number_of A i j (D x y)

  level_zero : LevelIs 0
  unfolding number_of
  level_zero = record { is = λ x y j hx hy. by x y j hx hy (cases_eq j (D x y)) }
    where
      other : (x y j z : ℕ) → x < n → y < n → z < n → (z ≡ x → D z y ≡ j → ⊥) → ((D x z == 0) && (D z y == j)) ≡ false
      other x y j z hx hy hz ne = ⊎_elim
          (λ (e : D x z ≡ 0). and_right (D x z == 0) (D z y == j) (ne_eqb (D z y) j (ne (sym (r.apart x z hx hz e)))))
          (λ (nf : D x z ≡ 0 → ⊥). and_left (D x z == 0) (D z y == j) (ne_eqb (D x z) 0 nf))
          (cases_eq (D x z) 0)

      by : (x y j : ℕ) → x < n → y < n → (j ≡ D x y) ⊎ (j ≡ D x y → ⊥) → joint x y 0 j ≡ cond (j == D x y) 1 0
      by x y j hx hy (inl e) =
          sum_hit (λ z. (D x z == 0) && (D z y == j)) 1 n x hx
          (and_from (D x x == 0) (D x y == j) (eq-eqb (D x x) 0 (r.self x hx)) (eq-eqb (D x y) j (sym e)))
          (λ z hz ne. other x y j z hx hy hz (λ s _. ne s))
          ∙ sym (cond-true (j == D x y) 1 0 (eq-eqb j (D x y) e))
      by x y j hx hy (inr ne) =
          sum_none (λ z. (D x z == 0) && (D z y == j)) 1 n
          (λ z hz. other x y j z hx hy hz (λ s e. ne (sym e ∙ ap (λ w. D w y) s)))
          ∙ sym (cond-false (j == D x y) 1 0 (ne_eqb j (D x y) ne))

  level_one : LevelIs 1
  unfolding number_of
  level_one = record {
    is = λ x y j hx hy.
        sum_by_points_agree (λ z. unit_of ((D x z == 1) && (D z y == j))) (λ z. cond (D x z == 1) (number_of A 0 j (D y z)) 0) n
        (λ z hz.
        both_units (D x z == 1) (D z y == j)
        ∙ ap (λ t. cond (D x z == 1) (unit_of t) 0) (turned_test (D z y) j ∙ ap (λ m. j == m) (r.turned z y hz hy)))
        ∙ neighbour_total A n D r (number_of A 0 j) y x hy hx
        ∙ ap (λ k. pairs_at A 0 j k) (r.turned y x hy hx)
        ∙ sym (number_of-one A j (D x y));
  }

  -- the pairs (w, z) with w joined to x, z at distance i from w and j from y, by w
  by_w : (i j x y : ℕ) → x < n → y < n → LevelIs i → sum_by (λ w. cond (D x w == 1) (joint w y i j) 0) (points n) ≡ pairs_at A i j (D x y)
  by_w i j x y hx hy h =
      sum_by_points_agree (λ w. cond (D x w == 1) (joint w y i j) 0) (λ w. cond (D x w == 1) (number_of A i j (D y w)) 0) n
      (λ w hw. ap (λ m. cond (D x w == 1) m 0) (h.is w y j hw hy ∙ ap (number_of A i j) (r.turned w y hw hy)))
      ∙ neighbour_total A n D r (number_of A i j) y x hy hx
      ∙ ap (λ k. pairs_at A i j k) (r.turned y x hy hx)

  -- and by z
  by_z : (i j x y : ℕ) → x < n → y < n → sum_by (λ w. cond (D x w == 1) (joint w y (suc i) j) 0) (points n)
      ≡ a_of A (suc i) * joint x y (suc i) j + b_of A i * joint x y i j + c_of A (suc (suc i)) * joint x y (suc (suc i)) j
  by_z i j x y hx hy =
      let a = a_of A (suc i) in
      let b = b_of A i in
      let c = c_of A (suc (suc i)) in
      sum_by_points_agree (λ w. cond (D x w == 1) (joint w y (suc i) j) 0)
      (λ w. sum_by (λ z. cond (D x w == 1) (unit_of ((D w z == suc i) && (D z y == j))) 0) (points n)) n
      (λ w hw. sum_within (D x w == 1) (λ z. unit_of ((D w z == suc i) && (D z y == j))) n)
      ∙ sums_exchanged (λ z w. cond (D x w == 1) (unit_of ((D w z == suc i) && (D z y == j))) 0) n n
      ∙ sum_by_points_agree (λ z. sum_by (λ w. cond (D x w == 1) (unit_of ((D w z == suc i) && (D z y == j))) 0) (points n))
      (λ z. a * unit_of ((D x z == suc i) && (D z y == j)) + b * unit_of ((D x z == i) && (D z y == j)) + c * unit_of ((D x z == suc (suc i)) && (D z y == j))) n
      (λ z hz. at_z z hz)
      ∙ sum_add3 (λ z. a * unit_of ((D x z == suc i) && (D z y == j))) (λ z. b * unit_of ((D x z == i) && (D z y == j))) (λ z. c * unit_of ((D x z == suc (suc i)) && (D z y == j))) n
      ∙ (λ t. sum_scaled a (λ z. unit_of ((D x z == suc i) && (D z y == j))) n t
      + sum_scaled b (λ z. unit_of ((D x z == i) && (D z y == j))) n t
      + sum_scaled c (λ z. unit_of ((D x z == suc (suc i)) && (D z y == j))) n t)
    where
      chosen : (u : Bool) (a b c : ℕ) (s t v : Bool) → cond u (a * unit_of s + b * unit_of t + c * unit_of v) 0 ≡ a * unit_of (s && u) + b * unit_of (t && u) + c * unit_of (v && u)
      chosen true a b c s t v = λ p. a * unit_of (and_true s p) + b * unit_of (and_true t p) + c * unit_of (and_true v p)
      chosen false a b c s t v = omega (arith, missed a s, missed b t, missed c v)

      at_z : (z : ℕ) → z < n → sum_by (λ w. cond (D x w == 1) (unit_of ((D w z == suc i) && (D z y == j))) 0) (points n)
          ≡ a_of A (suc i) * unit_of ((D x z == suc i) && (D z y == j)) + b_of A i * unit_of ((D x z == i) && (D z y == j)) + c_of A (suc (suc i)) * unit_of ((D x z == suc (suc i)) && (D z y == j))
      at_z z hz =
          sum_by_points_agree (λ w. cond (D x w == 1) (unit_of ((D w z == suc i) && (D z y == j))) 0) (λ w. cond (D z y == j) (cond (D x w == 1) (unit_of (D z w == suc i)) 0) 0) n
          (λ w hw. regrouped (D x w == 1) (D w z == suc i) (D z y == j) ∙ ap (λ m. cond (D z y == j) (cond (D x w == 1) (unit_of (m == suc i)) 0) 0) (r.turned w z hw hz))
          ∙ sym (sum_within (D z y == j) (λ w. cond (D x w == 1) (unit_of (D z w == suc i)) 0) n)
          ∙ ap (λ s. cond (D z y == j) s 0)
          (neighbour_total A n D r (λ m. unit_of (m == suc i)) z x hz hx ∙ ap (neighbour_sum A (λ m. unit_of (m == suc i))) (r.turned z x hz hx) ∙ weights A i (D x z))
          ∙ chosen (D z y == j) (a_of A (suc i)) (b_of A i) (c_of A (suc (suc i))) (D x z == suc i) (D x z == i) (D x z == suc (suc i))

  -- the array has no 0 before its end
  pub c_pos : (i : ℕ) → i < diameter_of A → 1 ≤ c_of A (suc i)
  c_pos i l =
      let p = r.reached (suc i) (omega (arith, l)) in
      let x = p.0 in
      let y = p.2.0 in
      let e : D x y ≡ suc i = p.2.2 in
      let w = r.before x y i p.1 p.2.1 e in
      let one : D y w.0 ≡ 1 = r.turned y w.0 p.2.1 w.1 ∙ w.3 in
      let some = counted (λ z. (D y z == 1) && (D x z + 1 == D x y)) n w.0 w.1
      (and_from (D y w.0 == 1) (D x w.0 + 1 == D x y) (eq-eqb (D y w.0) 1 one) (eq-eqb (D x w.0 + 1) (D x y) (omega (arith, e, w.2)))) in
      omega (arith, some, r.nearer x y p.1 p.2.1, ap (c_of A) e)

  -- the pairs by w are the pairs by z
  pub whole_of : (i : ℕ) → LevelIs i → LevelIs (suc i) → (x y j : ℕ) → x < n → y < n
      → nearer_pairs_at A i j (D x y) + c_of A (suc (suc i)) * joint x y (suc (suc i)) j ≡ pairs_at A (suc i) j (D x y)
  whole_of i below here x y j hx hy =
      (λ t. a_of A (suc i) * sym (here.is x y j hx hy) t + b_of A i * sym (below.is x y j hx hy) t + c_of A (suc (suc i)) * joint x y (suc (suc i)) j)
      ∙ sym (by_z i j x y hx hy)
      ∙ by_w (suc i) j x y hx hy here

  level_more : (i : ℕ) → suc (suc i) ≤ diameter_of A → LevelIs i → LevelIs (suc i) → LevelIs (suc (suc i))
  unfolding number_of
  level_more i l below here = record {
    is = λ x y j hx hy.
        let c = c_of A (suc (suc i)) in
        let own = joint x y (suc (suc i)) j in
        let nearer = nearer_pairs_at A i j (D x y) in
        sym (mul-div_cancel_left own (c_pos (suc i) l))
        ∙ ap (λ m. m / c) (sym (add-sub_cancel_left nearer (c * own)))
        ∙ ap (λ m. (m - nearer) / c) (whole_of i below here x y j hx hy);
  }

  -- each level is that of the table
  pub levels_are : (i : ℕ) → i ≤ diameter_of A → LevelIs i
  levels_are zero l = level_zero
  levels_are (suc zero) l = level_one
  levels_are (suc (suc i)) l = level_more i l (levels_are i (omega (arith, l))) (levels_are (suc i) (omega (arith, l)))
