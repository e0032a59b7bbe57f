-- The fibres of the closure are an equitable partition for the arcs of each set of colours.
use Rattle.std.proofs.Common.{◌≡◌, ◌==◌, ◌&&◌, ℕ, suc, ◌<◌, Bool, true, false, cond, List, get_or, map, count_by, ⊎_elim, refl, sym, ap, subst, ◌∙◌, arith}
use Rattle.std.specs.Prelude.{IsTrue}
use Rattle.std.proofs.lemmas.Bool.{cases_eq, eq-eqb, ne_eqb, eqb-true, and_from}
use Rattle.std.proofs.lemmas.List.FromFn.{get_or-map-range_with_len, length-map-range_with_len}
use Rattle.std.proofs.lemmas.List.Sorted.{sum_by-IsPermutation}
use Rattle.pair_colours.specs.Colouring.{PairColouring, Refines, colour_at, points, triangles}
use Rattle.pair_colours.specs.Closure.{Coherent, IsClosureOf}
use Rattle.pair_colours.specs.ColourSets.{is_in}
use Rattle.pair_colours.proofs.Counts.{count_by-map, count_by_points, triangle_point, counted}
use Rattle.pair_colours.proofs.Places.{over, over_at}
use Rattle.pair_colours.proofs.Exists.{by_pairs, colour_at-by_pairs}
use Rattle.pair_colours.proofs.Rounds.{sides, IsPermutation-sides}
use Rattle.equitable.specs.Equitable.{IsEquitable, arcs_into}
use Rattle.equitable.specs.Arcs.{HasArcsOf}
use Rattle.equitable.specs.Law.{FibresLieInCells}

-- the fibre of each point, as the colour of its diagonal pair
abbrev pub fibres : PairColouring → List ℕ
fibres K = map (λ x. colour_at K x x) (points K.size)

fibre_at : (K : PairColouring) (x : ℕ) → x < K.size → get_or (fibres K) x 0 ≡ colour_at K x x
fibre_at K x l = get_or-map-range_with_len (λ z. colour_at K z z) 0 K.size x x 0 l (omega arith)

-- pairs of one colour end in one fibre: over (x, z) stands the triangle on z, with the sides (x, z) and (z, z)
pub end_fibre : (K : PairColouring) → Coherent K → (x z u v : ℕ) → x < K.size → z < K.size → u < K.size → v < K.size
    → colour_at K x z ≡ colour_at K u v → colour_at K z z ≡ colour_at K v v
end_fibre K h x z u v hx hz hu hv e =
    let i : ℕ = colour_at K x z in
    let j : ℕ = colour_at K z z in
    let here : 0 < triangles K x z i j =
    counted (λ w. (colour_at K x w == i) && (colour_at K w z == j)) K.size z hz (and_from _ _ (eq-eqb i i refl) (eq-eqb j j refl)) in
    let there : 0 < triangles K u v i j = omega (arith, here, h.constant_triangles x z u v hx hz hu hv e i j) in
    let w = triangle_point K u v i j there in
    let same : w.0 ≡ v = h.splits_diagonal z w.0 v hz w.1 hv (sym w.3) in
    sym w.3 ∙ ap (λ p. colour_at K p v) same

-- 0 where there is no arc, and else one more than the fibre where it ends
abbrev arc_fibre : PairColouring → PairColouring → ℕ → ℕ → ℕ
arc_fibre G K x z = cond (colour_at G x z == 1) (suc (colour_at K z z)) 0

arc_fibre_test : (own : Bool) (f c : ℕ) → (cond own (suc f) 0 == suc c) ≡ (own && (f == c))
arc_fibre_test true f c = ⊎_elim
    (λ (e : f ≡ c). eq-eqb (suc f) (suc c) (ap suc e) ∙ sym (eq-eqb f c e))
    (λ ne. ne_eqb (suc f) (suc c) (λ e. ne (omega (arith, e))) ∙ sym (ne_eqb f c ne))
    (cases_eq f c)
arc_fibre_test false f c = ne_eqb 0 (suc c) (λ e. omega (arith, e))

-- two tests that hold in the same cases are one
same_test : (a b : Bool) → (a ≡ true → b ≡ true) → (b ≡ true → a ≡ true) → a ≡ b
same_test true b h k = sym (h refl)
same_test false true h k = k refl
same_test false false h k = refl

module _ (C K G : PairColouring) (set : List ℕ) (k : IsClosureOf K C) (a : HasArcsOf C set G) where
  sizes : K.size ≡ C.size
  sizes = k.closure.refines.sizes

  in_c : (x : ℕ) → x < K.size → x < C.size
  in_c x l = omega (arith, l, sizes)

  -- whether a pair is an arc depends on its colour
  arc_same : (x z u v : ℕ) → x < K.size → z < K.size → u < K.size → v < K.size → colour_at K x z ≡ colour_at K u v
      → (colour_at G x z == 1) ≡ (colour_at G u v == 1)
  arc_same x z u v hx hz hu hv e =
      let c = k.closure.refines.classes x z u v hx hz hu hv e in
      same_test (colour_at G x z == 1) (colour_at G u v == 1)
      (λ t. eq-eqb _ _ ((a.arcs u v (in_c u hu) (in_c v hv)).1
      (subst (λ n. IsTrue (is_in set n)) c ((a.arcs x z (in_c x hx) (in_c z hz)).0 (eqb-true _ _ t)))))
      (λ t. eq-eqb _ _ ((a.arcs x z (in_c x hx) (in_c z hz)).1
      (subst (λ n. IsTrue (is_in set n)) (sym c) ((a.arcs u v (in_c u hu) (in_c v hv)).0 (eqb-true _ _ t)))))

  abbrev label_pairs : PairColouring
  label_pairs = by_pairs K.size (arc_fibre G K)

  refines_labels : Refines K label_pairs
  refines_labels = record {
    sizes = refl;
    classes = λ x z u v hx hz hu hv e.
        colour_at-by_pairs K.size (arc_fibre G K) x z hx hz
        ∙ (λ i. cond (arc_same x z u v hx hz hu hv e i) (suc (end_fibre K k.closure.coherent x z u v hx hz hu hv e i)) 0)
        ∙ sym (colour_at-by_pairs K.size (arc_fibre G K) u v hu hv);
  }

  -- so arcs into a fibre are counted on the sides of the triangles on a diagonal pair
  arcs_on_sides : (x c : ℕ) → x < K.size → arcs_into G (fibres K) x c ≡ count_by (λ w. over K label_pairs w.0 == suc c) (sides K x x)
  arcs_on_sides x c hx =
      ap (λ n. count_by (λ z. (colour_at G x z == 1) && (get_or (fibres K) z 0 == c)) (points n)) (a.sizes ∙ sym sizes)
      ∙ count_by_points (λ z. (colour_at G x z == 1) && (get_or (fibres K) z 0 == c)) (λ z. over K label_pairs (colour_at K x z) == suc c) K.size
      (λ z l.
      ap (λ f. (colour_at G x z == 1) && (f == c)) (fibre_at K z l)
      ∙ sym (arc_fibre_test (colour_at G x z == 1) (colour_at K z z) c)
      ∙ ap (λ f. f == suc c) (sym (colour_at-by_pairs K.size (arc_fibre G K) x z hx l)
      ∙ sym (over_at K label_pairs k.closure.colouring refines_labels x z hx l)))
      ∙ sym (count_by-map (λ w. over K label_pairs w.0 == suc c) (λ z. (colour_at K x z, colour_at K z x)) (points K.size))

  pub fibres_are_equitable : IsEquitable G (fibres K)
  fibres_are_equitable = record {
    cells = length-map-range_with_len (λ z. colour_at K z z) 0 K.size ∙ sizes ∙ sym a.sizes;
    arcs = λ x y hx hy e c.
        let lx : x < K.size = omega (arith, hx, a.sizes, sizes) in
        let ly : y < K.size = omega (arith, hy, a.sizes, sizes) in
        let own : colour_at K x x ≡ colour_at K y y = sym (fibre_at K x lx) ∙ e ∙ fibre_at K y ly in
        let moved = IsPermutation-sides K x x y y (k.closure.coherent.constant_triangles x x y y lx lx ly ly own) in
        arcs_on_sides x c lx
        ∙ sym (sum_by-IsPermutation (λ w. cond (over K label_pairs w.0 == suc c) 1 0) (sides K x x) (sides K y y) moved)
        ∙ sym (arcs_on_sides y c ly);
  }

-- so each lies in one cell
pub fibres_lie_in_cells : FibresLieInCells
fibres_lie_in_cells C K G set W k a w x y hx hy e =
    let sizes = k.closure.refines.sizes in
    w.coarsest (fibres K) (fibres_are_equitable C K G set k a) x y (omega (arith, hx, a.sizes, sizes)) (omega (arith, hy, a.sizes, sizes))
    (fibre_at K x hx ∙ e ∙ sym (fibre_at K y hy))
