-- The colours that are met between two classes: any one of them determines all.
use Rattle.std.proofs.Common.{◌≡◌, ◌==◌, ◌&&◌, ℕ, ◌<◌, Bool, true, refl, sym, ap, subst, ◌∙◌}
use Rattle.std.proofs.lemmas.Bool.{eq-eqb, and_from}
use Rattle.pair_colours.specs.Colouring.{PairColouring, colour_at, triangles}
use Rattle.pair_colours.specs.Closure.{Coherent}
use Rattle.pair_colours.specs.ClosedSet.{IsClosedSet}
use Rattle.pair_colours.proofs.Counts.{triangle_point, counted}
use Rattle.quotients.specs.Quotient.{IsMet, MeetSame}

pub MeetSame-sym : (K : PairColouring) (S : ℕ → Bool) (x y u v : ℕ) → MeetSame K S x y u v → MeetSame K S u v x y
MeetSame-sym K S x y u v m = record { colours = λ c. ((m.colours c).1, (m.colours c).0) }

pub MeetSame-trans : (K : PairColouring) (S : ℕ → Bool) (x y u v s t : ℕ) → MeetSame K S x y u v → MeetSame K S u v s t → MeetSame K S x y s t
MeetSame-trans K S x y u v s t m w = record { colours = λ c. (λ a. (w.colours c).0 ((m.colours c).0 a), λ a. (m.colours c).1 ((w.colours c).1 a)) }

-- over alike pairs of a coherent colouring the same triangles stand
third : (K : PairColouring) → Coherent K → (x y u v z : ℕ) → x < K.size → y < K.size → u < K.size → v < K.size → z < K.size → colour_at K x y ≡ colour_at K u v
    → (w : ℕ) × (w < K.size) × (colour_at K u w ≡ colour_at K x z) × (colour_at K w v ≡ colour_at K z y)
third K h x y u v z hx hy hu hv hz e =
    let i = colour_at K x z in
    let j = colour_at K z y in
    let here : 0 < triangles K x y i j = counted (λ w. (colour_at K x w == i) && (colour_at K w y == j)) K.size z hz (and_from (i == i) (j == j) (eq-eqb i i refl) (eq-eqb j j refl)) in
    triangle_point K u v i j (subst (λ m. 0 < m) (h.constant_triangles x y u v hx hy hu hv e i j) here)

module _ (K : PairColouring) (S : ℕ → Bool) (h : Coherent K) (c : IsClosedSet K S) where
  -- what is met between the classes of an alike pair
  pub met_alike : (x y u v d : ℕ) → x < K.size → y < K.size → u < K.size → v < K.size → colour_at K x y ≡ colour_at K u v → IsMet K S x y d → IsMet K S u v d
  met_alike x y u v d hx hy hu hv e m =
      let a = third K h x y u v m.from hx hy hu hv m.row e in
      let b = third K h m.from y a.0 v m.to m.row hy a.1 hv m.column (sym a.3) in
      record {
        from = a.0;
        to = b.0;
        row = a.1;
        column = b.1;
        near = ap S a.2 ∙ m.near;
        far = c.symmetric b.0 v b.1 hv (ap S b.3 ∙ c.symmetric y m.to hy m.column m.far);
        is = b.2 ∙ m.is;
      }

  pub alike_meet_same : (x y u v : ℕ) → x < K.size → y < K.size → u < K.size → v < K.size → colour_at K x y ≡ colour_at K u v → MeetSame K S x y u v
  alike_meet_same x y u v hx hy hu hv e = record { colours = λ d. (met_alike x y u v d hx hy hu hv e, met_alike u v x y d hu hv hx hy (sym e)) }

  -- what is met does not depend on the points that stand for the classes
  met_moved : (x y u v d : ℕ) → x < K.size → y < K.size → u < K.size → v < K.size → S (colour_at K x u) ≡ true → S (colour_at K y v) ≡ true → IsMet K S x y d → IsMet K S u v d
  met_moved x y u v d hx hy hu hv e f m = record {
    from = m.from;
    to = m.to;
    row = m.row;
    column = m.column;
    near = c.transitive u x m.from hu hx m.row (c.symmetric x u hx hu e) m.near;
    far = c.transitive v y m.to hv hy m.column (c.symmetric y v hy hv f) m.far;
    is = m.is;
  }

  pub class_meet_same : (x y u v : ℕ) → x < K.size → y < K.size → u < K.size → v < K.size → S (colour_at K x u) ≡ true → S (colour_at K y v) ≡ true → MeetSame K S x y u v
  class_meet_same x y u v hx hy hu hv e f = record {
    colours = λ d. (met_moved x y u v d hx hy hu hv e f, met_moved u v x y d hu hv hx hy (c.symmetric x u hx hu e) (c.symmetric y v hy hv f));
  }

  -- a pair meets its own colour
  pub met_self : (x y : ℕ) → x < K.size → y < K.size → IsMet K S x y (colour_at K x y)
  met_self x y hx hy = record { from = x; to = y; row = hx; column = hy; near = c.reflexive x hx; far = c.reflexive y hy; is = refl }

  -- and a pair whose colour is met between two classes meets what they do
  pub met_meet_same : (x y d : ℕ) → x < K.size → y < K.size → (m : IsMet K S x y d) → MeetSame K S x y m.from m.to
  met_meet_same x y d hx hy m = class_meet_same x y m.from m.to hx hy m.row m.column m.near m.far

  pub same_or_disjoint : (x y u v d : ℕ) → x < K.size → y < K.size → u < K.size → v < K.size → IsMet K S x y d → IsMet K S u v d → MeetSame K S x y u v
  same_or_disjoint x y u v d hx hy hu hv m w =
      MeetSame-trans K S x y m.from m.to u v (met_meet_same x y d hx hy m)
      (MeetSame-trans K S m.from m.to w.from w.to u v (alike_meet_same m.from m.to w.from w.to m.row m.column w.row w.column (m.is ∙ sym w.is))
      (MeetSame-sym K S u v w.from w.to (met_meet_same u v d hu hv w)))
