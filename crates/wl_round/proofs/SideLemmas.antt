-- Pairs of one kind, and their codes.
use Rattle.std.proofs.Common.{◌≡◌, ◌↔◌, ◌==◌, ◌&&◌, ℕ, ◌+◌, ◌-◌, ◌*◌, ◌<◌, Bool, true, false, not, List, length, get_or, map, count_by, ⊎_elim, refl, sym, ap, subst, ◌∙◌, arith}
use Rattle.std.proofs.Math.Bool.{beq}
use Rattle.std.proofs.lemmas.Bool.{cases_lt, eq-eqb, eqb-true, and_from}
use Rattle.std.proofs.lemmas.Bool.Decides.{Decides-eqb, Decides-and, Decides-like, same_from_decides}
use Rattle.std.proofs.lemmas.List.{length-map}
use Rattle.std.proofs.lemmas.List.FromFn.{length-range_with_len}
use Rattle.std.proofs.lemmas.Nat.{same_from_place}
use Rattle.pair_colours.specs.Colouring.{PairColouring, colour_at, points, triangles}
use Rattle.pair_colours.specs.Rounds.{Alike}
use Rattle.pair_colours.proofs.Counts.{count_by_points, triangle_point}
use Rattle.pair_colours.proofs.Exists.{same_counts}
use Rattle.pair_colours.proofs.Places.{place_below}
use Rattle.wl_round.specs.declared.sides.Tables.{Tables}
use Rattle.wl_round.specs.CodeCounts.{AreSides, IsCountOf, sum_at, sum_count}
use Rattle.wl_round.specs.RowCodes.{Covers}
use Rattle.wl_round.specs.Sides.{AreTables, AreOfOneKind, HasCodeCounts, code_over, code_count, colouring_of}
use Rattle.wl_round.proofs.PointCounts.{count_hit, counted_point, count_of_list}
use Rattle.wl_round.proofs.RowCodeLemmas.{place_tells, place_same, lead_same}

-- tests of the diagonal that agree
tests_agree : (p q : Bool) → not (beq p q) ≡ false → p ≡ q
tests_agree true true e = refl
tests_agree true false e = e
tests_agree false true e = sym e
tests_agree false false e = refl

pub diagonal_from : (x y u v : ℕ) → not (beq (x == y) (u == v)) ≡ false → (x ≡ y) ↔ (u ≡ v)
diagonal_from x y u v e =
    let same = tests_agree (x == y) (u == v) e in
    (λ d. eqb-true u v (sym same ∙ eq-eqb x y d), λ d. eqb-true x y (same ∙ eq-eqb u v d))

-- a point shows triangles
triangle_some : (P : PairColouring) (x y z : ℕ) → z < P.size → 0 < triangles P x y (colour_at P x z) (colour_at P z y)
triangle_some P x y z l =
    let m : ℕ = P.size - z - 1 in
    let e : z + 1 + m ≡ P.size = omega (arith, l) in
    let here = λ (w : ℕ). (colour_at P x w == colour_at P x z) && (colour_at P w y == colour_at P z y) in
    let more = count_hit here z m (and_from (colour_at P x z == colour_at P x z) (colour_at P z y == colour_at P z y) (eq-eqb _ _ refl) (eq-eqb _ _ refl)) in
    omega (arith, more, ap (λ k. count_by here (points k)) e)

module _ (t : Tables) (h : AreTables t) where
  abbrev n : ℕ
  n = t.size

  abbrev P : PairColouring
  P = colouring_of t

  abbrev place : ℕ → ℕ → ℕ
  place x z = get_or h.places (x * n + z) 0

  abbrev right : ℕ → ℕ → ℕ
  right y z = get_or t.rights.items (y * n + z) 0

  left_is : (x z : ℕ) → x < n → z < n → get_or t.lefts.items (x * n + z) 0 ≡ place x z * n
  left_is x z hx hz = h.lefts.is (x * n + z) (place_below n x z hx hz)

  turned_is : (x y : ℕ) → x < n → y < n → get_or t.turned.items (x * n + y) 0 ≡ colour_at P y x
  turned_is x y hx hy = h.turned.is x y hx hy

  pub code_low : (x y z : ℕ) → x < n → y < n → z < n → code_over t x y z < n * n
  code_low x y z hx hy hz =
      omega (arith, left_is x z hx hz, place_below n (place x z) (right y z) (h.rows.place x z hx hz).inside (h.columns.place y z hy hz).inside)

  module _ (x y u v : ℕ) (hx : x < n) (hy : y < n) (hu : u < n) (hv : v < n) (rows : get_or t.row_leads.items x 0 ≡ get_or t.row_leads.items u 0)
      (columns : get_or t.column_leads.items y 0 ≡ get_or t.column_leads.items v 0) where
    -- equal codes mean equal colours
    code_tells : (z w : ℕ) → z < n → w < n → code_over t u v w ≡ code_over t x y z → (colour_at P u w ≡ colour_at P x z) × (colour_at P w v ≡ colour_at P z y)
    code_tells z w hz hw e =
        let both = same_from_place (place u w) (right v w) (place x z) (right y z) n (h.columns.place v w hv hw).inside (h.columns.place y z hy hz).inside
        (omega (arith, e, left_is u w hu hw, left_is x z hx hz)) in (
          place_tells n t.classes.items t.row_leads.items h.places h.rows u w x z hu hw hx hz (sym rows) both.0,
          sym (turned_is v w hv hw) ∙ place_tells n t.turned.items t.column_leads.items t.rights.items h.columns v w y z hv hw hy hz (sym columns) both.1 ∙ turned_is y z hy hz,
        )

    code_same : (z w : ℕ) → z < n → w < n → (colour_at P u w ≡ colour_at P x z) × (colour_at P w v ≡ colour_at P z y) → code_over t u v w ≡ code_over t x y z
    code_same z w hz hw e =
        let a : place u w ≡ place x z = place_same n t.classes.items t.row_leads.items h.places h.rows u w x z hu hw hx hz (sym rows) e.0 in
        let b : right v w ≡ right y z = place_same n t.turned.items t.column_leads.items t.rights.items h.columns v w y z hv hw hy hz (sym columns) (turned_is v w hv hw ∙ e.1 ∙ sym (turned_is y z hy hz)) in
        let c : place u w * n ≡ place x z * n = ap (λ k. k * n) a in
        omega (arith, left_is u w hu hw, left_is x z hx hz, b, c)

    -- the points of a code of (x, y) on (u, v) are those of the triangles of two colours
    pub count_code : (z : ℕ) → z < n → code_count t u v (code_over t x y z) ≡ triangles P u v (colour_at P x z) (colour_at P z y)
    count_code z hz =
        count_by_points (λ w. code_over t u v w == code_over t x y z) (λ w. (colour_at P u w == colour_at P x z) && (colour_at P w v == colour_at P z y)) n
        (λ w hw. same_from_decides _ _ (Decides-eqb (code_over t u v w) (code_over t x y z))
        (Decides-like _ (code_same z w hz hw) (code_tells z w hz hw)
        (Decides-and _ _ (Decides-eqb (colour_at P u w) (colour_at P x z)) (Decides-eqb (colour_at P w v) (colour_at P z y)))))

  -- a row has the classes of another, and a column those of another
  sides_cover : (x y u v : ℕ) → x < n → y < n → u < n → v < n → ((i j : ℕ) → triangles P x y i j ≡ triangles P u v i j) → Covers n t.classes.items u x × Covers n t.turned.items v y
  sides_cover x y u v hx hy hu hv same =
      let over = λ (z : ℕ) (hz : z < n).
      triangle_point P u v (colour_at P x z) (colour_at P z y) (omega (arith, triangle_some P x y z hz, same (colour_at P x z) (colour_at P z y))) in (
        record { at = λ z hz. let w = over z hz in (w.0, w.1, w.2) },
        record { at = λ z hz. let w = over z hz in (w.0, w.1, turned_is v w.0 hv w.1 ∙ w.3 ∙ sym (turned_is y z hy hz)) },
      )

  -- alike pairs are of one kind
  pub kind_of_alike : (x y u v : ℕ) → x < n → y < n → u < n → v < n → Alike P x y u v → AreOfOneKind t x y u v
  kind_of_alike x y u v hx hy hu hv a =
      let there = sides_cover x y u v hx hy hu hv a.counts in
      let back = sides_cover u v x y hu hv hx hy (λ i j. sym (a.counts i j)) in
      record {
        diagonal = a.diagonal;
        own = a.own;
        turned = turned_is x y hx hy ∙ a.turned ∙ sym (turned_is u v hu hv);
        rows = lead_same n t.classes.items t.row_leads.items h.places h.rows x u hx hu there.0 back.0;
        columns = lead_same n t.turned.items t.column_leads.items t.rights.items h.columns y v hy hv there.1 back.1;
      }

  module _ (x y u v : ℕ) (hx : x < n) (hy : y < n) (hu : u < n) (hv : v < n) (k : AreOfOneKind t x y u v) where
    -- where their codes come equally often, they are alike
    pub alike_from_codes : ((code : ℕ) → code_count t u v code ≡ code_count t x y code) → Alike P x y u v
    alike_from_codes same = record {
      diagonal = k.diagonal;
      own = k.own;
      turned = sym (turned_is x y hx hy) ∙ k.turned ∙ turned_is u v hu hv;
      counts = same_counts P x y u v
          (λ z hz. sym (count_code x y x y hx hy hx hy refl refl z hz) ∙ sym (same (code_over t x y z)) ∙ count_code x y u v hx hy hu hv k.rows k.columns z hz)
          (λ z hz. sym (count_code u v u v hu hv hu hv refl refl z hz) ∙ same (code_over t u v z) ∙ count_code u v x y hu hv hx hy (sym k.rows) (sym k.columns) z hz);
    }

    -- and the codes of alike pairs come equally often
    pub codes_of_alike : Alike P x y u v → (code : ℕ) → code_count t u v code ≡ code_count t x y code
    codes_of_alike a code =
        ⊎_elim
        (λ some.
        let z = counted_point (λ w. code_over t x y w == code) n some in
        let at = eqb-true (code_over t x y z.0) code z.2 in
        subst (λ c. code_count t u v c ≡ code_count t x y c) at
        (count_code x y u v hx hy hu hv k.rows k.columns z.0 z.1 ∙ sym (a.counts _ _) ∙ sym (count_code x y x y hx hy hx hy refl refl z.0 z.1)))
        (λ none. ⊎_elim
        (λ some.
        let z = counted_point (λ w. code_over t u v w == code) n some in
        let at = eqb-true (code_over t u v z.0) code z.2 in
        subst (λ c. code_count t u v c ≡ code_count t x y c) at
        (count_code u v u v hu hv hu hv refl refl z.0 z.1 ∙ sym (a.counts _ _) ∙ sym (count_code u v x y hu hv hx hy (sym k.rows) (sym k.columns) z.0 z.1)))
        (λ none'. omega (arith, none, none'))
        (cases_lt 0 (code_count t u v code)))
        (cases_lt 0 (code_count t x y code))

-- two lists are the left and the right numbers for the pair (x, y)
pub record AreSidesOf (t : Tables) (x y : ℕ) (xs ys : List ℕ) : Type 0 where
  pub left_len : length xs ≡ t.size
  pub right_len : length ys ≡ t.size
  pub left : (z : ℕ) → z < t.size → get_or xs z 0 ≡ get_or t.lefts.items (x * t.size + z) 0
  pub right : (z : ℕ) → z < t.size → get_or ys z 0 ≡ get_or t.rights.items (y * t.size + z) 0

module _ (t : Tables) (x y : ℕ) (xs ys : List ℕ) (s : AreSidesOf t x y xs ys) where
  sum_is : (z : ℕ) → z < t.size → sum_at xs ys z ≡ code_over t x y z
  sum_is z hz = λ i. s.left z hz i + s.right z hz i

  pub sum_counts : (code : ℕ) → sum_count xs ys code ≡ code_count t x y code
  sum_counts code =
      ap (λ m. count_by (λ z. sum_at xs ys z == code) (points m)) s.left_len
      ∙ count_by_points (λ z. sum_at xs ys z == code) (λ z. code_over t x y z == code) t.size (λ z hz. ap (λ w. w == code) (sum_is z hz))

  pub AreSides-of : AreTables t → x < t.size → y < t.size → AreSides xs ys (t.size * t.size)
  AreSides-of h hx hy = record {
    lens = s.left_len ∙ sym s.right_len;
    short = omega (arith, s.left_len, h.square.limit);
    below = λ z l. let hz : z < t.size = omega (arith, l, s.left_len) in omega (arith, sum_is z hz, code_low t h x y z hx hy hz);
  }

-- the counts of the codes of a pair count a list
pub IsCountOf-codes : (t : Tables) (x y : ℕ) (counts : List ℕ) → HasCodeCounts t x y counts → IsCountOf t.size counts
IsCountOf-codes t x y counts h = record {
  list = map (code_over t x y) (points t.size);
  len = length-map (points t.size) (code_over t x y) ∙ length-range_with_len 0 t.size;
  is = λ code. h.is code ∙ count_of_list (code_over t x y) t.size code;
}

module _ (t : Tables) (h : AreTables t) (x y u v : ℕ) (hx : x < t.size) (hy : y < t.size) (hu : u < t.size) (hv : v < t.size) (k : AreOfOneKind t x y u v)
    (want xs ys : List ℕ) (w : HasCodeCounts t x y want) (s : AreSidesOf t u v xs ys) where
  pub alike_by_counts : ((code : ℕ) → sum_count xs ys code ≡ get_or want code 0) → Alike (colouring_of t) x y u v
  alike_by_counts e = alike_from_codes t h x y u v hx hy hu hv k (λ code. sym (sum_counts t u v xs ys s code) ∙ e code ∙ w.is code)

  -- no code of an alike pair comes more often
  pub unlike_by_count : (code : ℕ) → get_or want code 0 < sum_count xs ys code → ¬ Alike (colouring_of t) x y u v
  unlike_by_count code less a = omega (arith, less, codes_of_alike t h x y u v hx hy hu hv k a code, sum_counts t u v xs ys s code, w.is code)
