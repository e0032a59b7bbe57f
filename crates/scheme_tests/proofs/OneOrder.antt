-- A configuration that commutes in one order of its classes commutes: over a row the numbers of two classes add up to the
-- same in either order, so where none is less, each is the same.
use Rattle.std.proofs.Common.{◌≡◌, ◌==◌, ◌&&◌, ℕ, suc, zero, ◌+◌, ◌*◌, ◌<◌, ◌≤◌, Bool, true, false, count_by, sum_by, ◌⊎◌, inl, inr, ⊎_elim, refl, sym, ap, ◌∙◌, arith}
use Rattle.std.proofs.lemmas.Bool.{cases_lt, eq-eqb, and_from}
use Rattle.pair_colours.specs.Colouring.{PairColouring, IsColour, colour_at, points, triangles}
use Rattle.pair_colours.specs.IntersectionNumber.{pair_of_class, intersection_number}
use Rattle.pair_colours.proofs.Counts.{unit_of, triangle_point, counted}
use Rattle.pair_colours.proofs.Measure.{sum_by_points_more, sum_by_points_same}
use Rattle.struct_consts.specs.ClassData.{IsConfiguration, valency_of}
use Rattle.struct_consts.proofs.LawProofs.{colours_are_below_rank, classes_have_pairs, triangles_are_constants}
use Rattle.struct_consts.proofs.Sums.{sum_add, sum_zero}
use Rattle.scheme_tests.specs.SchemeTests.{Homogeneous, Commutative}
use Rattle.scheme_tests.specs.Law.{CommutesInOrder}
use Rattle.scheme_tests.proofs.TestLemmas.{colour_of, row_count-homogeneous}

-- the pairs that pass two tests, where each point that passes the first has w points that pass the second
pairs_counted : (p : ℕ → Bool) (q : ℕ → ℕ → Bool) (w n m : ℕ) → ((v : ℕ) → v < m → count_by (q v) (points n) ≡ w)
    → sum_by (λ y. count_by (λ v. p v && q v y) (points m)) (points n) ≡ count_by p (points m) * w
pairs_counted p q w n zero h = omega (arith, sum_zero n)
pairs_counted p q w n (suc m) h =
    (λ i. sum_by (λ y. sum_by_points_more (λ v. unit_of (p v && q v y)) m i) (points n))
    ∙ sum_add (λ y. count_by (λ v. p v && q v y) (points m)) (λ y. unit_of (p m && q m y)) n
    ∙ last (p m) (pairs_counted p q w n m (λ v l. h v (omega (arith, l))))
    ∙ ap (λ k. k * w) (sym (sum_by_points_more (λ v. unit_of (p v)) m))
  where
    last : (b : Bool) → sum_by (λ y. count_by (λ v. p v && q v y) (points m)) (points n) ≡ count_by p (points m) * w
        → sum_by (λ y. count_by (λ v. p v && q v y) (points m)) (points n) + sum_by (λ y. unit_of (b && q m y)) (points n) ≡ (count_by p (points m) + unit_of b) * w
    last true e = (λ i. e i + h m (omega arith) i) ∙ omega arith
    last false e = omega (arith, e, sum_zero n)

-- from each point of a homogeneous configuration, a step in one class and then one in another
row_total : (K : PairColouring) → IsConfiguration K → Homogeneous K → (x i j : ℕ) → x < K.size → IsColour K i → IsColour K j
    → sum_by (λ y. triangles K x y i j) (points K.size) ≡ valency_of K i * valency_of K j
row_total K g h x i j hx ui uj =
    pairs_counted (λ v. colour_at K x v == i) (λ v y. colour_at K v y == j) (valency_of K j) K.size K.size (λ v hv. row_count-homogeneous K g h v j hv ((colours_are_below_rank K g j).1 uj))
    ∙ ap (λ n. n * valency_of K j) (row_count-homogeneous K g h x i hx ((colours_are_below_rank K g i).1 ui))

module _ (K : PairColouring) (g : IsConfiguration K) (s : CommutesInOrder K) where
  -- where a point stands between two others with its colours in order, another has them exchanged
  exchanged : (x y z : ℕ) → x < K.size → y < K.size → z < K.size → colour_at K x z < colour_at K z y
      → (w : ℕ) × (w < K.size) × (colour_at K x w ≡ colour_at K z y) × (colour_at K w y ≡ colour_at K x z)
  exchanged x y z hx hy hz l =
      let i = colour_at K x z in
      let j = colour_at K z y in
      let k = colour_at K x y in
      let here : 0 < triangles K x y i j =
      counted (λ w. (colour_at K x w == i) && (colour_at K w y == j)) K.size z hz (and_from (colour_at K x z == i) (colour_at K z y == j) (eq-eqb (colour_at K x z) i refl) (eq-eqb (colour_at K z y) j refl)) in
      let there = triangles_are_constants K g x y i j hx hy in
      let turned = triangles_are_constants K g x y j i hx hy in
      let same = s.swapped i j k l (colour_of K x z hx hz) (colour_of K z y hz hy) (colour_of K x y hx hy) (omega (arith, here, there)) in
      triangle_point K x y j i (omega (arith, here, there, turned, same))

  fibre_below : (x y : ℕ) → x < K.size → y < K.size → (colour_at K x x ≡ colour_at K y y) ⊎ (colour_at K y y ≤ colour_at K x x)
  fibre_below x y hx hy = ⊎_elim
      (λ (l : colour_at K x x < colour_at K x y).
      let w = exchanged x y x hx hy hx l in
      let at : w.0 ≡ y = g.coherent.splits_diagonal x w.0 y hx w.1 hy (sym w.3) in
      inl (sym w.3 ∙ ap (λ v. colour_at K v y) at))
      (λ (m : colour_at K x y ≤ colour_at K x x). ⊎_elim
      (λ (l : colour_at K x y < colour_at K y y).
      let w = exchanged x y y hx hy hy l in
      let at : x ≡ w.0 = g.coherent.splits_diagonal y x w.0 hy hx w.1 (sym w.2) in
      inl (ap (colour_at K x) at ∙ w.2))
      (λ (n : colour_at K y y ≤ colour_at K x y). inr (omega (arith, m, n)))
      (cases_lt (colour_at K x y) (colour_at K y y)))
      (cases_lt (colour_at K x x) (colour_at K x y))

  homogeneous_in_order : Homogeneous K
  homogeneous_in_order = record {
    one_fibre = λ x y hx hy. ⊎_elim
        (λ e. e)
        (λ (m : colour_at K y y ≤ colour_at K x x). ⊎_elim (λ e. sym e) (λ (n : colour_at K x x ≤ colour_at K y y). omega (arith, m, n)) (fibre_below y x hy hx))
        (fibre_below x y hx hy);
  }

  same_in_order : (i j k : ℕ) → i < j → IsColour K i → IsColour K j → IsColour K k → intersection_number K i j k ≡ intersection_number K j i k
  same_in_order i j k l ui uj uk =
      let p = (classes_have_pairs K g k ((colours_are_below_rank K g k).1 uk)).1 in
      let x = (pair_of_class K k).0 in
      let none_less : (y : ℕ) → y < K.size → triangles K x y i j ≤ triangles K x y j i = λ y hy.
      let c = colour_at K x y in
      let there = triangles_are_constants K g x y i j p.row hy in
      let turned = triangles_are_constants K g x y j i p.row hy in
      ⊎_elim
      (λ (m : 0 < intersection_number K i j c). omega (arith, there, turned, s.swapped i j c l ui uj (colour_of K x y p.row hy) m))
      (λ (m : intersection_number K i j c ≤ 0). omega (arith, there, m))
      (cases_lt 0 (intersection_number K i j c)) in
      sum_by_points_same (λ y. triangles K x y i j) (λ y. triangles K x y j i) K.size none_less
      (omega (arith, row_total K g homogeneous_in_order x i j p.row ui uj, row_total K g homogeneous_in_order x j i p.row uj ui))
      (pair_of_class K k).1 p.column

  pub one_order_is_enough : Commutative K
  one_order_is_enough = record {
    swapped = λ i j k ui uj uk. ⊎_elim
        (λ (l : i < j). same_in_order i j k l ui uj uk)
        (λ (m : j ≤ i). ⊎_elim
        (λ (l : j < i). sym (same_in_order j i k l uj ui uk))
        (λ (n : i ≤ j). let e : i ≡ j = omega (arith, m, n) in λ t. intersection_number K (e t) (sym e t) k)
        (cases_lt j i))
        (cases_lt i j);
  }
