-- The thin scheme of a group is coherent.
use Rattle.std.proofs.Common.{◌≡◌, ◌==◌, ◌&&◌, ℕ, ◌<◌, ◌≤◌, false, count_by, ⊎_elim, sym, ap, ◌∙◌, arith}
use Rattle.std.proofs.lemmas.Bool.{cases_lt, cases_eq, eq-eqb, ne_eqb}
use Rattle.pair_colours.specs.Colouring.{PairColouring, colour_at, points, triangles}
use Rattle.pair_colours.specs.Closure.{Coherent}
use Rattle.pair_colours.proofs.Counts.{unit_of, count_by_points}
use Rattle.schur_rings.specs.Group.{IsGroup, inverse_of, quotient}
use Rattle.schur_rings.specs.Thin.{thin_of}
use Rattle.schur_rings.proofs.GroupLemmas.{quotient_below, quotient-product, product-quotient, quotient_of_one, same_from_unit, quotient_turned, quotient_of_product}
use Rattle.pair_colours.proofs.SingleCounts.{count_single}
use Rattle.schur_rings.proofs.ThinLemmas.{thin_at}

module _ (T : PairColouring) (g : IsGroup T) where
  -- over (x, y) the one point z with (x, z) of colour i is x i, and (x i, y) has the colour i^-1 (x^-1 y)
  one_point : (x y i j z : ℕ) → x < T.size → y < T.size → i < T.size → z < T.size
      → ((colour_at (thin_of T) x z == i) && (colour_at (thin_of T) z y == j)) ≡ ((colour_at T x i == z) && (quotient T i (quotient T x y) == j))
  one_point x y i j z hx hy hi hz = ⊎_elim
      (λ (e : colour_at T x i ≡ z).
      let left : colour_at (thin_of T) x z ≡ i = thin_at T x z hx hz ∙ ap (quotient T x) (sym e) ∙ quotient-product T g x i hx hi in
      let right : colour_at (thin_of T) z y ≡ quotient T i (quotient T x y) = thin_at T z y hz hy ∙ ap (λ w. quotient T w y) (sym e) ∙ quotient_of_product T g x i y hx hi hy in
      (λ k. eq-eqb (colour_at (thin_of T) x z) i left k && (right k == j)) ∙ (λ k. sym (eq-eqb (colour_at T x i) z e) k && (quotient T i (quotient T x y) == j)))
      (λ ne.
      let off : colour_at (thin_of T) x z ≡ i → ⊥ = λ e. ne (ap (colour_at T x) (sym e ∙ thin_at T x z hx hz) ∙ product-quotient T g x z hx hz) in
      ap (λ b. b && (colour_at (thin_of T) z y == j)) (ne_eqb (colour_at (thin_of T) x z) i off) ∙ sym (ap (λ b. b && (quotient T i (quotient T x y) == j)) (ne_eqb (colour_at T x i) z ne)))
      (cases_eq (colour_at T x i) z)

  triangles-thin : (x y i j : ℕ) → x < T.size → y < T.size → i < T.size
      → triangles (thin_of T) x y i j ≡ unit_of (quotient T i (quotient T x y) == j)
  triangles-thin x y i j hx hy hi =
      count_by_points (λ z. (colour_at (thin_of T) x z == i) && (colour_at (thin_of T) z y == j)) (λ z. (colour_at T x i == z) && (quotient T i (quotient T x y) == j)) T.size
      (λ z hz. one_point x y i j z hx hy hi hz)
      ∙ count_single (λ z. quotient T i (quotient T x y) == j) (colour_at T x i) T.size (g.closed x i hx hi)

  -- a number that is no element is no colour
  triangles-none : (x y i j : ℕ) → x < T.size → y < T.size → T.size ≤ i → triangles (thin_of T) x y i j ≡ count_by (λ z. false) (points T.size)
  triangles-none x y i j hx hy hi =
      count_by_points (λ z. (colour_at (thin_of T) x z == i) && (colour_at (thin_of T) z y == j)) (λ z. false) T.size
      (λ z hz. ap (λ b. b && (colour_at (thin_of T) z y == j)) (ne_eqb (colour_at (thin_of T) x z) i (λ e. omega (arith, e, thin_at T x z hx hz, quotient_below T g x z hx hz, hi))))

  pub thin_is_coherent : Coherent (thin_of T)
  thin_is_coherent = record {
    splits_diagonal = λ x u v hx hu hv e.
        same_from_unit T g u v hu hv (sym (thin_at T u v hu hv) ∙ sym e ∙ thin_at T x x hx hx ∙ quotient_of_one T g x hx);
    closed_under_transpose = λ x y u v hx hy hu hv e.
        thin_at T y x hy hx
        ∙ quotient_turned T g x y hx hy
        ∙ ap (inverse_of T) (same x y u v hx hy hu hv e)
        ∙ sym (quotient_turned T g u v hu hv)
        ∙ sym (thin_at T v u hv hu);
    constant_triangles = λ x y u v hx hy hu hv e i j. ⊎_elim
        (λ (l : i < T.size).
        triangles-thin x y i j hx hy l
        ∙ ap (λ q. unit_of (quotient T i q == j)) (same x y u v hx hy hu hv e)
        ∙ sym (triangles-thin u v i j hu hv l))
        (λ (l : T.size ≤ i). triangles-none x y i j hx hy l ∙ sym (triangles-none u v i j hu hv l))
        (cases_lt i T.size);
  }
    where
      same : (x y u v : ℕ) → x < T.size → y < T.size → u < T.size → v < T.size → colour_at (thin_of T) x y ≡ colour_at (thin_of T) u v → quotient T x y ≡ quotient T u v
      same x y u v hx hy hu hv e = sym (thin_at T x y hx hy) ∙ e ∙ thin_at T u v hu hv
