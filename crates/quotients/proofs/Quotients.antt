-- The quotient of a homogeneous coherent configuration is coherent: triangles of points are those of classes, times the size of a class.
use Rattle.std.proofs.Common.{◌≡◌, ◌==◌, ◌&&◌, ◌↔◌, ℕ, ◌*◌, ◌<◌, Bool, true, length, get_or, count_by, refl, sym, ap, subst, ◌∙◌, arith}
use Rattle.std.specs.List.{position_or_len}
use Rattle.std.proofs.lemmas.Bool.{eqb-true, eq-eqb, and_parts, and_from}
use Rattle.pair_colours.specs.Colouring.{PairColouring, Refines, colour_at, points, triangles}
use Rattle.pair_colours.specs.Closure.{Coherent}
use Rattle.pair_colours.proofs.Counts.{unit_of, sum_by_points_agree, count_by_points, counted}
use Rattle.pair_colours.proofs.Exists.{by_pairs, colour_at-by_pairs}
use Rattle.pair_colours.proofs.Rounds.{alike_in}
use Rattle.quotients.specs.Quotient.{IsMet, MeetSame, least_of, classes, Quotient}
use Rattle.quotients.specs.Law.{IsParted}
use Rattle.quotients.proofs.Points.{filtered_place, filtered_has}
use Rattle.quotients.proofs.Leasts.{bool_same, least_in, least_same, least_least}
use Rattle.quotients.proofs.Meets.{MeetSame-sym, MeetSame-trans, alike_meet_same, class_meet_same, met_self}
use Rattle.quotients.proofs.Tellings.{first_at}
use Rattle.quotients.proofs.Fibres.{sum_fibres, sum_by_times, same_factor}

-- the place of the class of x
abbrev place_of : PairColouring → (ℕ → Bool) → ℕ → ℕ
place_of K S x = position_or_len (λ c. c == least_of K S x) (classes K S)

-- the colouring of the points by the colours of their classes
abbrev lifted : PairColouring → (ℕ → Bool) → PairColouring → PairColouring
lifted K S L = by_pairs K.size (λ x y. colour_at L (place_of K S x) (place_of K S y))

module _ (K : PairColouring) (S : ℕ → Bool) (L : PairColouring) (p : IsParted K S) (q : Quotient K S L) where
  down : (s : ℕ) → s < L.size → s < length (classes K S)
  down s l = omega (arith, l, q.size)

  first_below : (s : ℕ) → s < L.size → get_or (classes K S) s 0 < K.size
  first_below s l = (first_at K S s (down s l)).0

  place_below : (x : ℕ) → x < K.size → place_of K S x < L.size
  place_below x l =
      let a = least_in K S p.closed x l in
      let h = filtered_has (λ z. least_of K S z == z) K.size (least_of K S x) a.0 (eq-eqb _ _ (least_least K S p.closed x l)) in
      omega (arith, h.0, q.size)

  first_of_place : (x : ℕ) → x < K.size → get_or (classes K S) (place_of K S x) 0 ≡ least_of K S x
  first_of_place x l =
      let a = least_in K S p.closed x l in
      (filtered_has (λ z. least_of K S z == z) K.size (least_of K S x) a.0 (eq-eqb _ _ (least_least K S p.closed x l))).1

  place_of_first : (s : ℕ) → s < L.size → place_of K S (get_or (classes K S) s 0) ≡ s
  place_of_first s l =
      ap (λ v. position_or_len (λ c. c == v) (classes K S)) (first_at K S s (down s l)).1
      ∙ filtered_place (λ z. least_of K S z == z) K.size s (down s l)

  place_same : (x y : ℕ) → x < K.size → y < K.size → S (colour_at K x y) ≡ true → place_of K S x ≡ place_of K S y
  place_same x y hx hy e = ap (λ v. position_or_len (λ c. c == v) (classes K S)) (least_same K S p.closed x y hx hy e)

  -- classes are alike where the same colours are met between their points
  alike_points : (x y u v : ℕ) → x < K.size → y < K.size → u < K.size → v < K.size
      → colour_at L (place_of K S x) (place_of K S y) ≡ colour_at L (place_of K S u) (place_of K S v) ↔ MeetSame K S x y u v
  alike_points x y u v hx hy hu hv =
      let f : (z : ℕ) → ℕ = λ z. get_or (classes K S) (place_of K S z) 0 in
      let both = q.alike (place_of K S x) (place_of K S y) (place_of K S u) (place_of K S v) (place_below x hx) (place_below y hy) (place_below u hu) (place_below v hv) in
      let to : (z w : ℕ) → z < K.size → w < K.size → MeetSame K S z w (f z) (f w) = λ z w hz hw.
      let a = least_in K S p.closed z hz in
      let b = least_in K S p.closed w hw in
      subst (λ m. MeetSame K S z w m (f w)) (sym (first_of_place z hz)) (subst (λ m. MeetSame K S z w (least_of K S z) m) (sym (first_of_place w hw))
      (class_meet_same K S p.coherent p.closed z w (least_of K S z) (least_of K S w) hz hw a.0 b.0 a.1 b.1)) in
      let back : (z w : ℕ) → z < K.size → w < K.size → MeetSame K S (f z) (f w) z w = λ z w hz hw. MeetSame-sym K S z w (f z) (f w) (to z w hz hw) in (
        λ e. MeetSame-trans K S x y (f x) (f y) u v (to x y hx hy) (MeetSame-trans K S (f x) (f y) (f u) (f v) u v (both.0 e) (back u v hu hv)),
        λ m. both.1 (MeetSame-trans K S (f x) (f y) x y (f u) (f v) (back x y hx hy) (MeetSame-trans K S x y u v (f u) (f v) m (to u v hu hv))),
      )

  lifted_at : (x y : ℕ) → x < K.size → y < K.size → colour_at (lifted K S L) x y ≡ colour_at L (place_of K S x) (place_of K S y)
  lifted_at x y hx hy = colour_at-by_pairs K.size (λ a b. colour_at L (place_of K S a) (place_of K S b)) x y hx hy

  refines_lifted : Refines K (lifted K S L)
  refines_lifted = record {
    sizes = refl;
    classes = λ x y u v hx hy hu hv e.
        lifted_at x y hx hy ∙ (alike_points x y u v hx hy hu hv).1 (alike_meet_same K S p.coherent p.closed x y u v hx hy hu hv e) ∙ sym (lifted_at u v hu hv);
  }

  -- a pair of classes like that of x and y has points of the colour of (x, y)
  same_colour : (x y a b : ℕ) → x < K.size → y < K.size → a < L.size → b < L.size → MeetSame K S x y (get_or (classes K S) a 0) (get_or (classes K S) b 0)
      → IsMet K S (get_or (classes K S) a 0) (get_or (classes K S) b 0) (colour_at K x y)
  same_colour x y a b hx hy ha hb m = (m.colours (colour_at K x y)).0 (met_self K S p.coherent p.closed x y hx hy)

  splits : (s a b : ℕ) → s < L.size → a < L.size → b < L.size → colour_at L s s ≡ colour_at L a b → a ≡ b
  splits s a b hs ha hb e =
      let m = (q.alike s s a b hs hs ha hb).0 e in
      let w = same_colour (get_or (classes K S) s 0) (get_or (classes K S) s 0) a b (first_below s hs) (first_below s hs) ha hb m in
      let one : w.from ≡ w.to = p.coherent.splits_diagonal (get_or (classes K S) s 0) w.from w.to (first_below s hs) w.row w.column (sym w.is) in
      sym (place_of_first a ha)
      ∙ place_same (get_or (classes K S) a 0) w.from (first_below a ha) w.row w.near
      ∙ ap (place_of K S) one
      ∙ sym (place_same (get_or (classes K S) b 0) w.to (first_below b hb) w.column w.far)
      ∙ place_of_first b hb

  turned_met : (x y u v d : ℕ) → MeetSame K S x y u v → IsMet K S y x d → IsMet K S v u d
  turned_met x y u v d m w =
      let t = (m.colours (colour_at K w.to w.from)).0 (record { from = w.to; to = w.from; row = w.column; column = w.row; near = w.far; far = w.near; is = refl }) in
      record {
        from = t.to;
        to = t.from;
        row = t.column;
        column = t.row;
        near = t.far;
        far = t.near;
        is = p.coherent.closed_under_transpose t.from t.to w.to w.from t.row t.column w.column w.row t.is ∙ w.is;
      }

  turned : (x y u v : ℕ) → MeetSame K S x y u v → MeetSame K S y x v u
  turned x y u v m = record { colours = λ d. (turned_met x y u v d m, turned_met u v x y d (MeetSame-sym K S x y u v m)) }

  -- how many points are in the class at a place
  has_class : 0 < L.size
  has_class = omega (arith, q.colouring.has_points)

  one_diagonal : (r : ℕ) → r < L.size → colour_at L r r ≡ colour_at L 0 0
  one_diagonal r l =
      (q.alike r r 0 0 l l has_class has_class).1
      (alike_meet_same K S p.coherent p.closed (get_or (classes K S) r 0) (get_or (classes K S) r 0) (get_or (classes K S) 0 0) (get_or (classes K S) 0 0)
      (first_below r l) (first_below r l) (first_below 0 has_class) (first_below 0 has_class)
      (p.one_fibre.one_fibre (get_or (classes K S) r 0) (get_or (classes K S) 0 0) (first_below r l) (first_below 0 has_class)))

  fibre_triangles : (r : ℕ) → r < L.size
      → count_by (λ z. place_of K S z == r) (points K.size) ≡ triangles (lifted K S L) (get_or (classes K S) r 0) (get_or (classes K S) r 0) (colour_at L 0 0) (colour_at L 0 0)
  fibre_triangles r l =
      let x = get_or (classes K S) r 0 in
      let d = colour_at L 0 0 in
      let hx = first_below r l in
      count_by_points (λ z. place_of K S z == r) (λ z. (colour_at (lifted K S L) x z == d) && (colour_at (lifted K S L) z x == d)) K.size
      (λ z hz.
      let out : colour_at (lifted K S L) x z ≡ colour_at L r (place_of K S z) = lifted_at x z hx hz ∙ ap (λ m. colour_at L m (place_of K S z)) (place_of_first r l) in
      let in' : colour_at (lifted K S L) z x ≡ colour_at L (place_of K S z) r = lifted_at z x hz hx ∙ ap (λ m. colour_at L (place_of K S z) m) (place_of_first r l) in
      bool_same _ _
      (λ t. let e : place_of K S z ≡ r = eqb-true _ _ t in
      and_from _ _
      (eq-eqb _ _ (out ∙ ap (colour_at L r) e ∙ one_diagonal r l))
      (eq-eqb _ _ (in' ∙ ap (λ m. colour_at L m r) e ∙ one_diagonal r l)))
      (λ t. let e = eqb-true _ _ (and_parts _ _ t).0 in
      eq-eqb _ _ (sym (splits r r (place_of K S z) l l (place_below z hz) (one_diagonal r l ∙ sym e ∙ out)))))

  -- all classes have one size
  fibre_same : (r : ℕ) → r < L.size → count_by (λ z. place_of K S z == r) (points K.size) ≡ count_by (λ z. place_of K S z == 0) (points K.size)
  fibre_same r l =
      fibre_triangles r l
      ∙ (alike_in K (lifted K S L) p.colouring p.coherent refines_lifted (get_or (classes K S) r 0) (get_or (classes K S) r 0) (get_or (classes K S) 0 0) (get_or (classes K S) 0 0)
      (first_below r l) (first_below r l) (first_below 0 has_class) (first_below 0 has_class)
      (p.one_fibre.one_fibre (get_or (classes K S) r 0) (get_or (classes K S) 0 0) (first_below r l) (first_below 0 has_class))).counts (colour_at L 0 0) (colour_at L 0 0)
      ∙ sym (fibre_triangles 0 has_class)

  fibre_some : 0 < count_by (λ z. place_of K S z == 0) (points K.size)
  fibre_some = counted (λ z. place_of K S z == 0) K.size (get_or (classes K S) 0 0) (first_below 0 has_class) (eq-eqb _ _ (place_of_first 0 has_class))

  -- triangles of points are those of classes, times the size of a class
  lifted_triangles : (x y i j : ℕ) → x < K.size → y < K.size
      → triangles (lifted K S L) x y i j ≡ triangles L (place_of K S x) (place_of K S y) i j * count_by (λ z. place_of K S z == 0) (points K.size)
  lifted_triangles x y i j hx hy =
      let T : ℕ → ℕ = λ r. unit_of ((colour_at L (place_of K S x) r == i) && (colour_at L r (place_of K S y) == j)) in
      let h = count_by (λ z. place_of K S z == 0) (points K.size) in
      sum_by_points_agree (λ z. unit_of ((colour_at (lifted K S L) x z == i) && (colour_at (lifted K S L) z y == j))) (λ z. T (place_of K S z)) K.size
      (λ z hz. λ k. unit_of ((lifted_at x z hx hz k == i) && (lifted_at z y hz hy k == j)))
      ∙ sum_fibres T (place_of K S) K.size L.size (λ z hz. place_below z hz)
      ∙ sum_by_points_agree (λ r. T r * count_by (λ z. place_of K S z == r) (points K.size)) (λ r. T r * h) L.size (λ r l. ap (λ m. T r * m) (fibre_same r l))
      ∙ sum_by_times T h L.size

  pub quotient_is_coherent : Coherent L
  quotient_is_coherent = record {
    splits_diagonal = λ s a b hs ha hb e. splits s a b hs ha hb e;
    closed_under_transpose = λ s t a b hs ht ha hb e.
        (q.alike t s b a ht hs hb ha).1 (turned (get_or (classes K S) s 0) (get_or (classes K S) t 0) (get_or (classes K S) a 0) (get_or (classes K S) b 0) ((q.alike s t a b hs ht ha hb).0 e));
    constant_triangles = λ s t a b hs ht ha hb e i j.
        let x = get_or (classes K S) s 0 in
        let y = get_or (classes K S) t 0 in
        let hx = first_below s hs in
        let hy = first_below t ht in
        let w = same_colour x y a b hx hy ha hb ((q.alike s t a b hs ht ha hb).0 e) in
        let h = count_by (λ z. place_of K S z == 0) (points K.size) in
        let left : place_of K S w.from ≡ a = sym (place_same (get_or (classes K S) a 0) w.from (first_below a ha) w.row w.near) ∙ place_of_first a ha in
        let right : place_of K S w.to ≡ b = sym (place_same (get_or (classes K S) b 0) w.to (first_below b hb) w.column w.far) ∙ place_of_first b hb in
        let here : triangles (lifted K S L) x y i j ≡ triangles L s t i j * h =
        lifted_triangles x y i j hx hy ∙ (λ k. triangles L (place_of_first s hs k) (place_of_first t ht k) i j * h) in
        let there : triangles (lifted K S L) w.from w.to i j ≡ triangles L a b i j * h =
        lifted_triangles w.from w.to i j w.row w.column ∙ (λ k. triangles L (left k) (right k) i j * h) in
        let same : triangles (lifted K S L) x y i j ≡ triangles (lifted K S L) w.from w.to i j =
        (alike_in K (lifted K S L) p.colouring p.coherent refines_lifted x y w.from w.to hx hy w.row w.column (sym w.is)).counts i j in
        same_factor (triangles L s t i j) (triangles L a b i j) h fibre_some (sym here ∙ same ∙ there);
  }
