-- The array of a distance-regular graph passes all tests of a table.
use Rattle.std.proofs.Common.{◌≡◌, ◌==◌, ◌&&◌, not, ltb, ℕ, suc, zero, ◌+◌, ◌-◌, ◌*◌, ◌/◌, ◌%◌, ◌<◌, ◌≤◌, ◌++◌, ◌∷◌, [], Bool, true, false, cond, length, None, Some, count_by, sum_by, ⊎_elim, refl, sym, ap, ◌∙◌, subst, arith}
use Rattle.std.specs.List.{flat_map}
use Rattle.std.proofs.Math.Nat.{mul-div_cancel, add-sub_cancel_left, mul-mod_left, mul-mod_right}
use Rattle.std.proofs.lemmas.Bool.{cases_eq, cond-false, eq-eqb, ne_eqb, le-ltb, and_from, and_right}
use Rattle.std.proofs.lemmas.List.Elements.{All-from_get_or}
use Rattle.pair_colours.specs.declared.coloured_pairs.TheConstants.{MOST_POINTS}
use Rattle.pair_colours.specs.Colouring.{points}
use Rattle.pair_colours.specs.Tests.{first_that_holds}
use Rattle.pair_colours.proofs.Counts.{unit_of, sum_by_points_agree, counted}
use Rattle.pair_colours.proofs.Measure.{sum_by_points_more}
use Rattle.struct_consts.proofs.Sums.{sum_chosen}
use Rattle.array_tables.specs.declared.refusals.TableFault.TheVariants.{FirstC, Parts, Valency, TooManyPoints, Negative, Division}
use Rattle.array_tables.specs.declared.shares.TheConstants.{MOST_DIAMETER}
use Rattle.array_tables.specs.Parameters.{IntersectionArray, diameter_of, indices, point_count, b_of, c_of, valency_of, pairs_at, nearer_pairs_at}
use Rattle.array_tables.specs.Refusal.{first_tests, parts_tests, valency_tests, number_tests, row_tests, level_tests, table_refusal}
use Rattle.array_tables.specs.Kept.{FitsArray, IsArrayNumber, side_of}
use Rattle.array_tables.proofs.TestLists.{none_of_all, none_of_both}
use Rattle.array_tables.proofs.TableSums.{sum_hit, sums_exchanged, sum_within, sum_longer, values_counted}
use Rattle.array_tables.proofs.Neighbours.{IsRegular, degree, parts_of}
use Rattle.array_tables.proofs.Distances.{c_pos, joint, levels_are, regrouped, whole_of}

both_turned : (s t : Bool) → cond s (unit_of t) 0 ≡ unit_of (t && s)
both_turned true true = refl
both_turned true false = refl
both_turned false true = refl
both_turned false false = refl

same_later : (m i : ℕ) → (m == i) ≡ (m + 1 == suc i)
same_later m i = ⊎_elim
    (λ e. eq-eqb m i e ∙ sym (eq-eqb (m + 1) (suc i) (omega (arith, e))))
    (λ ne. ne_eqb m i ne ∙ sym (ne_eqb (m + 1) (suc i) (λ e. ne (omega (arith, e)))))
    (cases_eq m i)

-- a test that fails, and two of them
fails_one : {X : Type 0} (t : Bool) (said : X) → t ≡ false → first_that_holds ((t, said) ∷ []) ≡ None
fails_one t said e = cond-false t (Some said) None e

fails_two : {X : Type 0} (t u : Bool) (said other : X) → t ≡ false → u ≡ false → first_that_holds ((t, said) ∷ (u, other) ∷ []) ≡ None
fails_two t u said other e f = cond-false t (Some said) (cond u (Some other) None) e ∙ cond-false u (Some other) None f

module _ (A : IntersectionArray) (n : ℕ) (D : ℕ → ℕ → ℕ) (r : IsRegular A n D) where
  -- how many points are at distance i from x
  abbrev sphere : ℕ → ℕ → ℕ
  sphere x i = count_by (λ z. D x z == i) (points n)

  -- the edges between the points at distance i and those at distance i + 1 from x, counted from both ends
  edges_between : (x i : ℕ) → x < n → sphere x (suc i) * c_of A (suc i) ≡ sphere x i * b_of A i
  edges_between x i hx =
      let up : (y : ℕ) → y < n → sum_by (λ z. cond (D x y == i) (unit_of ((D y z == 1) && (D x z == suc i))) 0) (points n) ≡ cond (D x y == i) (b_of A i) 0 = λ y hy. from_below y hy in
      let down : (z : ℕ) → z < n → sum_by (λ y. cond (D x y == i) (unit_of ((D y z == 1) && (D x z == suc i))) 0) (points n) ≡ cond (D x z == suc i) (c_of A (suc i)) 0 = λ z hz. from_above z hz in
      sym (sum_chosen (λ z. D x z == suc i) (λ z. sum_by (λ y. cond (D x y == i) (unit_of ((D y z == 1) && (D x z == suc i))) 0) (points n)) (c_of A (suc i)) n down)
      ∙ sums_exchanged (λ y z. cond (D x y == i) (unit_of ((D y z == 1) && (D x z == suc i))) 0) n n
      ∙ sum_chosen (λ y. D x y == i) (λ y. sum_by (λ z. cond (D x y == i) (unit_of ((D y z == 1) && (D x z == suc i))) 0) (points n)) (b_of A i) n up
    where
      from_below : (y : ℕ) → y < n → sum_by (λ z. cond (D x y == i) (unit_of ((D y z == 1) && (D x z == suc i))) 0) (points n) ≡ cond (D x y == i) (b_of A i) 0
      from_below y hy =
          sym (sum_within (D x y == i) (λ z. unit_of ((D y z == 1) && (D x z == suc i))) n)
          ∙ ⊎_elim
          (λ (e : D x y ≡ i).
          ap (λ m. cond (D x y == i) m 0)
          (subst (λ m. count_by (λ w. (D y w == 1) && (D x w == m)) (points n) ≡ b_of A i) (let s : i + 1 ≡ suc i = omega arith in s)
          (subst (λ m. count_by (λ w. (D y w == 1) && (D x w == m + 1)) (points n) ≡ b_of A m) e (r.farther x y hx hy))))
          (λ ne. cond-false (D x y == i) (sum_by (λ z. unit_of ((D y z == 1) && (D x z == suc i))) (points n)) 0 (ne_eqb (D x y) i ne)
          ∙ sym (cond-false (D x y == i) (b_of A i) 0 (ne_eqb (D x y) i ne)))
          (cases_eq (D x y) i)

      from_above : (z : ℕ) → z < n → sum_by (λ y. cond (D x y == i) (unit_of ((D y z == 1) && (D x z == suc i))) 0) (points n) ≡ cond (D x z == suc i) (c_of A (suc i)) 0
      from_above z hz =
          sum_by_points_agree (λ y. cond (D x y == i) (unit_of ((D y z == 1) && (D x z == suc i))) 0) (λ y. cond (D x z == suc i) (unit_of ((D z y == 1) && (D x y + 1 == suc i))) 0) n
          (λ y hy.
          regrouped (D x y == i) (D y z == 1) (D x z == suc i)
          ∙ ap (λ m. cond (D x z == suc i) m 0)
          (both_turned (D x y == i) (D y z == 1) ∙ (λ t. unit_of ((r.turned y z hy hz t == 1) && same_later (D x y) i t))))
          ∙ sym (sum_within (D x z == suc i) (λ y. unit_of ((D z y == 1) && (D x y + 1 == suc i))) n)
          ∙ ⊎_elim
          (λ (e : D x z ≡ suc i).
          ap (λ m. cond (D x z == suc i) m 0)
          (subst (λ m. count_by (λ w. (D z w == 1) && (D x w + 1 == m)) (points n) ≡ c_of A m) e (r.nearer x z hx hz)))
          (λ ne. cond-false (D x z == suc i) (sum_by (λ y. unit_of ((D z y == 1) && (D x y + 1 == suc i))) (points n)) 0 (ne_eqb (D x z) (suc i) ne)
          ∙ sym (cond-false (D x z == suc i) (c_of A (suc i)) 0 (ne_eqb (D x z) (suc i) ne)))
          (cases_eq (D x z) (suc i))

  -- one point is at distance 0
  sphere_zero : (x : ℕ) → x < n → sphere x 0 ≡ 1
  sphere_zero x hx = sum_hit (λ z. D x z == 0) 1 n x hx (eq-eqb (D x x) 0 (r.self x hx)) (λ z hz ne. ne_eqb (D x z) 0 (λ e. ne (sym (r.apart x z hx hz e))))

  -- at each distance are as many points as the table says
  pub sphere_is : (x i : ℕ) → x < n → i ≤ diameter_of A → sphere x i ≡ valency_of A i
  unfolding valency_of
  sphere_is x zero hx l = sphere_zero x hx
  sphere_is x (suc i) hx l =
      sym (mul-div_cancel (sphere x (suc i)) (c_pos A n D r i (omega (arith, l))))
      ∙ ap (λ m. m / c_of A (suc i)) (edges_between x i hx ∙ ap (λ m. m * b_of A i) (sphere_is x i hx (omega (arith, l))))

  -- all of them together
  pub points_are : (x : ℕ) → x < n → point_count A ≡ n
  points_are x hx =
      sym (sum_by_points_agree (sphere x) (valency_of A) (diameter_of A + 1) (λ i l. sphere_is x i hx (omega (arith, l))))
      ∙ values_counted (D x) (diameter_of A + 1) n (λ z hz. omega (arith, r.small x z hx hz))

  valencies_below : (x i : ℕ) → x < n → i ≤ diameter_of A → sum_by (valency_of A) (points (i + 1)) ≤ n
  valencies_below x i hx l =
      let rest = diameter_of A - i in
      let same : (i + 1) + rest ≡ diameter_of A + 1 = omega (arith, l) in
      omega (arith, sum_longer (valency_of A) (i + 1) rest, ap (λ m. sum_by (valency_of A) (points m)) same, points_are x hx)

  -- c_1 is 1
  first_is : 1 ≤ diameter_of A → c_of A 1 ≡ 1
  first_is l =
      let p = r.reached 1 l in
      let x = p.0 in
      let y = p.2.0 in
      let e : D x y ≡ 1 = p.2.2 in
      let back : D y x ≡ 1 = r.turned y x p.2.1 p.1 ∙ e in
      let here : ((D y x == 1) && (D x x + 1 == 1)) ≡ true = and_from (D y x == 1) (D x x + 1 == 1) (eq-eqb (D y x) 1 back) (eq-eqb (D x x + 1) 1 (omega (arith, r.self x p.1))) in
      let others : (w : ℕ) → w < n → (w ≡ x → ⊥) → ((D y w == 1) && (D x w + 1 == 1)) ≡ false = λ w hw ne.
      and_right (D y w == 1) (D x w + 1 == 1) (ne_eqb (D x w + 1) 1 (λ s. ne (sym (r.apart x w p.1 hw (omega (arith, s)))))) in
      sym (subst (λ m. count_by (λ w. (D y w == 1) && (D x w + 1 == m)) (points n) ≡ c_of A m) e (r.nearer x y p.1 p.2.1))
      ∙ sum_hit (λ w. (D y w == 1) && (D x w + 1 == 1)) 1 n x p.1 here others

  -- b_i is at least 1 below the diameter
  b_pos : (i : ℕ) → i < diameter_of A → 1 ≤ b_of A i
  b_pos i l =
      let p = r.reached (suc i) (omega (arith, l)) in
      let x = p.0 in
      let y = p.2.0 in
      let w = r.before x y i p.1 p.2.1 p.2.2 in
      let some = counted (λ z. (D w.0 z == 1) && (D x z == D x w.0 + 1)) n y p.2.1
      (and_from (D w.0 y == 1) (D x y == D x w.0 + 1) (eq-eqb (D w.0 y) 1 w.3) (eq-eqb (D x y) (D x w.0 + 1) (omega (arith, p.2.2, w.2)))) in
      omega (arith, some, r.farther x w.0 p.1 w.1, ap (b_of A) w.2)

  parts_at : (i : ℕ) → i ≤ diameter_of A → b_of A i + c_of A i ≤ b_of A 0
  parts_at i l =
      let p = r.reached i l in
      subst (λ m. b_of A m + c_of A m ≤ b_of A 0) p.2.2 (parts_of A n D r p.0 p.2.0 p.1 p.2.1)

  -- a point has fewer neighbours than there are points
  degree_below : (x : ℕ) → x < n → 1 ≤ diameter_of A → b_of A 0 + 1 ≤ n
  degree_below x hx l =
      let two : sum_by (valency_of A) (points 2) ≤ n = valencies_below x 1 hx l in
      let one : sphere x 1 ≡ valency_of A 1 = sphere_is x 1 hx l in
      let none : sphere x 0 ≡ valency_of A 0 = sphere_is x 0 hx (omega arith) in
      omega (arith, two, sum_by_points_more (valency_of A) 1, sum_by_points_more (valency_of A) 0, one, none, sphere_zero x hx, degree A n D r x hx)

  -- the numbers that need no division
  pub FitsArray-regular : 1 ≤ length A.b → length A.b ≤ MOST_DIAMETER → length A.c ≡ length A.b → n ≤ MOST_POINTS → (x : ℕ) → x < n → FitsArray A
  FitsArray-regular least most lengths limit x hx = record {
    least = least;
    most = most;
    lengths = lengths;
    b_numbers = All-from_get_or IsArrayNumber A.b 0 (λ i l. (b_pos i l, omega (arith, parts_at i (omega (arith, l)), degree_below x hx least, limit)));
    c_numbers = All-from_get_or IsArrayNumber A.c 0 (λ i l.
        let low : i < diameter_of A = omega (arith, l, lengths) in
        (c_pos A n D r i low, omega (arith, parts_at (suc i) (omega (arith, low)), degree_below x hx least, limit)));
  }

  -- each test fails
  first_fails : 1 ≤ diameter_of A → first_that_holds (first_tests A) ≡ None
  first_fails l = fails_one (not (c_of A 1 == 1)) FirstC (ap not (eq-eqb (c_of A 1) 1 (first_is l)))

  parts_fail : first_that_holds (flat_map (parts_tests A) (indices A)) ≡ None
  parts_fail = none_of_all (parts_tests A) (diameter_of A + 1)
      (λ i l. fails_one (ltb (b_of A 0) (b_of A i + c_of A i)) (Parts i) (le-ltb (b_of A 0) (b_of A i + c_of A i) (parts_at i (omega (arith, l)))))

  valencies_fail : (x : ℕ) → x < n → n ≤ MOST_POINTS → first_that_holds (flat_map (valency_tests A) (points (diameter_of A))) ≡ None
  valencies_fail x hx limit = none_of_all (valency_tests A) (diameter_of A) (λ i l. fails i l)
    where
      fails : (i : ℕ) → i < diameter_of A → first_that_holds (valency_tests A i) ≡ None
      fails i l =
          let edges : valency_of A i * b_of A i ≡ sphere x (suc i) * c_of A (suc i) = ap (λ m. m * b_of A i) (sym (sphere_is x i hx (omega (arith, l)))) ∙ sym (edges_between x i hx) in
          let rest : valency_of A i * b_of A i % c_of A (suc i) ≡ 0 = ap (λ m. m % c_of A (suc i)) edges ∙ mul-mod_left (sphere x (suc i)) (c_of A (suc i)) in
          let few = valencies_below x (suc i) hx (omega (arith, l)) in
          fails_two (not (valency_of A i * b_of A i % c_of A (suc i) == 0)) (ltb MOST_POINTS (sum_by (valency_of A) (points (suc i + 1)))) (Valency (suc i)) (TooManyPoints (suc i))
          (ap not (eq-eqb (valency_of A i * b_of A i % c_of A (suc i)) 0 rest))
          (le-ltb MOST_POINTS (sum_by (valency_of A) (points (suc i + 1))) (omega (arith, few, limit)))

  number_fails : (i j k : ℕ) → i ≤ diameter_of A → k ≤ diameter_of A → first_that_holds (number_tests A i j k) ≡ None
  number_fails zero j k hi hk = refl
  number_fails (suc zero) j k hi hk = refl
  number_fails (suc (suc i)) j k hi hk =
      let p = r.reached k hk in
      let x = p.0 in
      let y = p.2.0 in
      let c = c_of A (suc (suc i)) in
      let own = joint A n D r x y (suc (suc i)) j in
      let whole : nearer_pairs_at A i j k + c * own ≡ pairs_at A (suc i) j k =
      subst (λ m. nearer_pairs_at A i j m + c * own ≡ pairs_at A (suc i) j m) p.2.2
      (whole_of A n D r i (levels_are A n D r i (omega (arith, hi))) (levels_are A n D r (suc i) (omega (arith, hi))) x y j p.1 p.2.1) in
      let left : pairs_at A (suc i) j k - nearer_pairs_at A i j k ≡ c * own =
      ap (λ m. m - nearer_pairs_at A i j k) (sym whole) ∙ add-sub_cancel_left (nearer_pairs_at A i j k) (c * own) in
      let rest : (pairs_at A (suc i) j k - nearer_pairs_at A i j k) % c ≡ 0 = ap (λ m. m % c) left ∙ mul-mod_right c own in
      fails_two (ltb (pairs_at A (suc i) j k) (nearer_pairs_at A i j k)) (not ((pairs_at A (suc i) j k - nearer_pairs_at A i j k) % c == 0))
      (Negative (suc (suc i)) j k) (Division (suc (suc i)) j k)
      (le-ltb (pairs_at A (suc i) j k) (nearer_pairs_at A i j k) (omega (arith, whole)))
      (ap not (eq-eqb ((pairs_at A (suc i) j k - nearer_pairs_at A i j k) % c) 0 rest))

  levels_fail : first_that_holds (flat_map (level_tests A) (indices A)) ≡ None
  levels_fail =
      none_of_all (level_tests A) (side_of A)
      (λ i hi. none_of_all (row_tests A i) (side_of A)
      (λ j hj. none_of_all (number_tests A i j) (side_of A)
      (λ k hk. number_fails i j k (omega (arith, hi)) (omega (arith, hk)))))

  pub accepted : 1 ≤ diameter_of A → n ≤ MOST_POINTS → (x : ℕ) → x < n → table_refusal A ≡ None
  accepted least limit x hx =
      let first = first_tests A in
      let parts = flat_map (parts_tests A) (indices A) in
      let valencies = flat_map (valency_tests A) (points (diameter_of A)) in
      let levels = flat_map (level_tests A) (indices A) in
      none_of_both (first ++ parts ++ valencies) levels
      (none_of_both (first ++ parts) valencies (none_of_both first parts (first_fails least) parts_fail) (valencies_fail x hx limit))
      levels_fail
