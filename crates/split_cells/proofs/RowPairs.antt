-- Pairs of classes in two rows, and the triangles that they tell.
use Rattle.std.proofs.Common.{◌≡◌, ◌≢◌, ◌==◌, ◌&&◌, ℕ, ◌<◌, Bool, true, false, ⊎_elim, refl, sym, ap, subst, ◌∙◌, arith}
use Rattle.std.proofs.lemmas.Bool.{cases_eq, cases_lt, eq-eqb, eqb-true, ne_eqb, and_parts}
use Rattle.pair_colours.specs.Colouring.{PairColouring, colour_at, triangles}
use Rattle.pair_colours.specs.Closure.{Coherent}
use Rattle.pair_colours.proofs.Counts.{count_by_points, triangle_point}
use Rattle.split_cells.specs.declared.codes.Codes.{Codes}
use Rattle.split_cells.specs.Faults.{IsSettled, HasHomes, HasLikeRowsOnce, row_pairs}
use Rattle.split_cells.specs.Codes.{IsCoded, code_over, code_count}
use Rattle.wl_round.proofs.PointCounts.{counted_point}
use Rattle.pair_colours.proofs.MetNumbers.{and_turned}

-- the rows the other way round
row_pairs-sym : (P : PairColouring) (x y i j : ℕ) → row_pairs P x y i j ≡ row_pairs P y x j i
row_pairs-sym P x y i j = count_by_points (λ z. (colour_at P x z == i) && (colour_at P y z == j)) (λ z. (colour_at P y z == j) && (colour_at P x z == i)) P.size (λ z l. and_turned (colour_at P x z == i) (colour_at P y z == j))

-- a point over which both colours stand
row_point : (P : PairColouring) (x y i j : ℕ) → 0 < row_pairs P x y i j → (z : ℕ) × (z < P.size) × (colour_at P x z ≡ i) × (colour_at P y z ≡ j)
row_point P x y i j h =
    let p = counted_point (λ z. (colour_at P x z == i) && (colour_at P y z == j)) P.size h in
    let both = and_parts (colour_at P x p.0 == i) (colour_at P y p.0 == j) p.2 in
    (p.0, p.1, eqb-true _ i both.0, eqb-true _ j both.1)

module _ (P : PairColouring) (s : IsSettled P) where
  -- a second side has a colour exactly where the transposed one has that of the transpose
  pub triangles_by_rows : (x y i u w : ℕ) → x < P.size → y < P.size → u < P.size → w < P.size → triangles P x y i (colour_at P u w) ≡ row_pairs P x y i (colour_at P w u)
  triangles_by_rows x y i u w hx hy hu hw =
      count_by_points (λ z. (colour_at P x z == i) && (colour_at P z y == colour_at P u w)) (λ z. (colour_at P x z == i) && (colour_at P y z == colour_at P w u)) P.size
      (λ z hz. ap (λ t. (colour_at P x z == i) && t) (⊎_elim
      (λ e. eq-eqb _ _ e ∙ sym (eq-eqb _ _ (s.turned z y u w hz hy hu hw e)))
      (λ ne. ne_eqb _ _ ne ∙ sym (ne_eqb _ _ (λ f. ne (s.turned y z w u hy hz hw hu f))))
      (cases_eq (colour_at P z y) (colour_at P u w))))

  -- like rows make like triangles
  like_triangles : (x y u v : ℕ) → x < P.size → y < P.size → u < P.size → v < P.size → ((i j : ℕ) → row_pairs P x y i j ≡ row_pairs P u v i j)
      → (i j : ℕ) → triangles P x y i j ≡ triangles P u v i j
  like_triangles x y u v hx hy hu hv h i j =
      ⊎_elim
      (λ some. let p = triangle_point P x y i j some in over p.0 y p.1 hy p.3)
      (λ none. ⊎_elim
      (λ some. let p = triangle_point P u v i j some in over p.0 v p.1 hv p.3)
      (λ no. omega (arith, none, no))
      (cases_lt 0 (triangles P u v i j)))
      (cases_lt 0 (triangles P x y i j))
    where
      over : (a b : ℕ) → a < P.size → b < P.size → colour_at P a b ≡ j → triangles P x y i j ≡ triangles P u v i j
      over a b ha hb e =
          subst (λ k. triangles P x y i k ≡ triangles P u v i k) e
          (triangles_by_rows x y i a b hx hy ha hb ∙ h i (colour_at P b a) ∙ sym (triangles_by_rows u v i a b hu hv ha hb))

  -- it is enough to look at one of a class and its transposed class
  like_rows_once : ((k : ℕ) → HasLikeRowsOnce P k) → (x y u v : ℕ) → x < P.size → y < P.size → u < P.size → v < P.size → colour_at P x y ≡ colour_at P u v
      → (i j : ℕ) → row_pairs P x y i j ≡ row_pairs P u v i j
  like_rows_once once x y u v hx hy hu hv e i j =
      ⊎_elim
      (λ l. row_pairs-sym P x y i j ∙ (once back (λ a b ha hb f. let g = s.turned a b y x ha hb hy hx f in omega (arith, l, g))).like y x v u hy hx hv hu refl (sym (s.turned x y u v hx hy hu hv e)) j i ∙ row_pairs-sym P v u j i)
      (λ l. (once k (λ a b ha hb f. let g = s.turned a b x y ha hb hx hy f in omega (arith, l, g))).like x y u v hx hy hu hv refl (sym e) i j)
      (cases_lt back k)
    where
      k : ℕ
      k = colour_at P x y

      back : ℕ
      back = colour_at P y x

  pub coherent_from_rows : ((k : ℕ) → HasLikeRowsOnce P k) → Coherent P
  coherent_from_rows once = record {
    splits_diagonal = s.diagonal;
    closed_under_transpose = s.turned;
    constant_triangles = λ x y u v hx hy hu hv e. like_triangles x y u v hx hy hu hv (like_rows_once once x y u v hx hy hu hv e);
  }

  module _ (codes : Codes) (c : IsCoded P codes) where
    -- over two pairs whose points are in the same fibres, the count of a code is that of the two colours
    count_as_rows : (x y u v w : ℕ) → x < P.size → y < P.size → u < P.size → v < P.size → w < P.size → colour_at P x x ≡ colour_at P u u → colour_at P y y ≡ colour_at P v v
        → code_count P.size codes x y (code_over P.size codes u v w) ≡ row_pairs P x y (colour_at P u w) (colour_at P v w)
    count_as_rows x y u v w hx hy hu hv hw e f =
        count_by_points (λ z. code_over P.size codes x y z == code_over P.size codes u v w) (λ z. (colour_at P x z == colour_at P u w) && (colour_at P y z == colour_at P v w)) P.size
        (λ z hz. ⊎_elim
        (λ g.
        let a = eq-eqb _ _ (c.left x y u v z w hx hy hu hv hz hw e g) in
        let b = eq-eqb _ _ (c.right x y u v z w hx hy hu hv hz hw f g) in
        eq-eqb _ _ g ∙ sym (λ r. a r && b r))
        (λ ne. ne_eqb _ _ ne ∙ sym (⊎_elim
        (λ a. ⊎_elim
        (λ b. absurd (ne (c.same x y u v z w hx hy hu hv hz hw a b)))
        (λ nb. second_false _ _ (ne_eqb _ _ nb))
        (cases_eq (colour_at P y z) (colour_at P v w)))
        (λ na. ap (λ t. t && (colour_at P y z == colour_at P v w)) (ne_eqb _ _ na))
        (cases_eq (colour_at P x z) (colour_at P u w))))
        (cases_eq (code_over P.size codes x y z) (code_over P.size codes u v w)))
      where
        second_false : (p q : Bool) → q ≡ false → (p && q) ≡ false
        second_false true q e = e
        second_false false q e = refl

    -- two pairs of one class
    module _ (h : HasHomes P) (x y u v : ℕ) (hx : x < P.size) (hy : y < P.size) (hu : u < P.size) (hv : v < P.size) (e : colour_at P x y ≡ colour_at P u v) where
      first_fibre : colour_at P x x ≡ colour_at P u u
      first_fibre = h.home x y u v hx hy hu hv e

      second_fibre : colour_at P y y ≡ colour_at P v v
      second_fibre = h.home y x v u hy hx hv hu (s.turned x y u v hx hy hu hv e)

      pub like_rows : ((code : ℕ) → code_count P.size codes x y code ≡ code_count P.size codes u v code) → (i j : ℕ) → row_pairs P x y i j ≡ row_pairs P u v i j
      like_rows same i j =
          ⊎_elim
          (λ some.
          let p = row_point P x y i j some in
          let a = count_as_rows x y x y p.0 hx hy hx hy p.1 refl refl in
          let b = count_as_rows u v x y p.0 hu hv hx hy p.1 (sym first_fibre) (sym second_fibre) in
          let d : row_pairs P x y (colour_at P x p.0) (colour_at P y p.0) ≡ row_pairs P u v (colour_at P x p.0) (colour_at P y p.0) = sym a ∙ same _ ∙ b in
          (λ r. row_pairs P x y (sym p.2 r) (sym p.3 r)) ∙ d ∙ (λ r. row_pairs P u v (p.2 r) (p.3 r)))
          (λ none. ⊎_elim
          (λ some.
          let p = row_point P u v i j some in
          let a = count_as_rows x y u v p.0 hx hy hu hv p.1 first_fibre second_fibre in
          let b = count_as_rows u v u v p.0 hu hv hu hv p.1 refl refl in
          let d : row_pairs P x y (colour_at P u p.0) (colour_at P v p.0) ≡ row_pairs P u v (colour_at P u p.0) (colour_at P v p.0) = sym a ∙ same _ ∙ b in
          (λ r. row_pairs P x y (sym p.2 r) (sym p.3 r)) ∙ d ∙ (λ r. row_pairs P u v (p.2 r) (p.3 r)))
          (λ no. omega (arith, none, no))
          (cases_lt 0 (row_pairs P u v i j)))
          (cases_lt 0 (row_pairs P x y i j))

      -- a code that comes more often over the second pair
      pub more_triangles : (w : ℕ) → w < P.size → code_count P.size codes x y (code_over P.size codes u v w) < code_count P.size codes u v (code_over P.size codes u v w)
          → triangles P x y (colour_at P u w) (colour_at P w v) ≢ triangles P u v (colour_at P u w) (colour_at P w v)
      more_triangles w hw less same =
          let a = count_as_rows x y u v w hx hy hu hv hw first_fibre second_fibre in
          let b = count_as_rows u v u v w hu hv hu hv hw refl refl in
          let p = triangles_by_rows x y (colour_at P u w) w v hx hy hw hv in
          let q = triangles_by_rows u v (colour_at P u w) w v hu hv hw hv in
          omega (arith, a, b, p, q, less, same)
