-- Closed sets of points and of structure constants are the same.
use Rattle.std.proofs.Common.{◌≡◌, ◌==◌, ◌&&◌, ℕ, ◌<◌, Bool, true, IsTrue, refl, sym, ap, subst, ◌∙◌, arith}
use Rattle.std.proofs.lemmas.Bool.{eq-eqb, and_from}
use Rattle.pair_colours.specs.Colouring.{PairColouring, colour_at, triangles}
use Rattle.pair_colours.specs.ClosedSet.{IsClosedSet}
use Rattle.pair_colours.specs.Naming.{rank_of}
use Rattle.pair_colours.specs.IntersectionNumber.{pair_of_class}
use Rattle.pair_colours.proofs.Counts.{triangle_point, counted}
use Rattle.struct_consts.specs.ClassData.{IsConfiguration}
use Rattle.struct_consts.proofs.LawProofs.{colours_are_below_rank, classes_have_pairs, triangles_are_constants}
use Rattle.closed_subsets.specs.Closedness.{IsClosedByConstants, ClosedByConstants}

module _ (K : PairColouring) (g : IsConfiguration K) (set : ℕ → Bool) where
  below : (x y : ℕ) → x < K.size → y < K.size → colour_at K x y < rank_of K
  below x y hx hy = (colours_are_below_rank K g (colour_at K x y)).1 (record { x = x; y = y; row = hx; column = hy; is = refl })

  by_constants : IsClosedSet K set → IsClosedByConstants K set
  by_constants s = record {
    diagonals = record {
      diagonal = λ c l e.
          let p = (classes_have_pairs K g c l).1 in
          subst (λ d. IsTrue (set d)) (ap (colour_at K (pair_of_class K c).0) e ∙ p.colour) (s.reflexive _ p.row);
    };
    transposes = record {
      turned = λ c l t.
          let p = (classes_have_pairs K g c l).1 in
          s.symmetric _ _ p.row p.column (subst (λ d. IsTrue (set d)) (sym p.colour) t);
    };
    products = record {
      products = λ i li ti. record {
        product = λ j k lj lk tj more.
            let p = (classes_have_pairs K g k lk).1 in
            let z = triangle_point K (pair_of_class K k).0 (pair_of_class K k).1 i j more in
            subst (λ d. IsTrue (set d)) p.colour
            (s.transitive _ z.0 _ p.row z.1 p.column (subst (λ d. IsTrue (set d)) (sym z.2) ti) (subst (λ d. IsTrue (set d)) (sym z.3) tj));
      };
    };
  }

  closed_from : IsClosedByConstants K set → IsClosedSet K set
  closed_from s = record {
    reflexive = λ x hx.
        let l = below x x hx hx in
        let p = (classes_have_pairs K g (colour_at K x x) l).1 in
        s.diagonals.diagonal (colour_at K x x) l (g.coherent.splits_diagonal x _ _ hx p.row p.column (sym p.colour));
    symmetric = λ x y hx hy t.
        let l = below x y hx hy in
        let p = (classes_have_pairs K g (colour_at K x y) l).1 in
        subst (λ d. IsTrue (set d)) (g.coherent.closed_under_transpose _ _ x y p.row p.column hx hy p.colour) (s.transposes.turned (colour_at K x y) l t);
    transitive = λ x y z hx hy hz t u.
        let i : ℕ = colour_at K x y in
        let j : ℕ = colour_at K y z in
        let here : ((colour_at K x y == i) && (colour_at K y z == j)) ≡ true = and_from (colour_at K x y == i) (colour_at K y z == j) (eq-eqb i i refl) (eq-eqb j j refl) in
        let some : 0 < triangles K x z i j = counted (λ w. (colour_at K x w == i) && (colour_at K w z == j)) K.size y hy here in
        (s.products.products i (below x y hx hy) t).product j (colour_at K x z) (below y z hy hz) (below x z hx hz) u
        (omega (arith, some, triangles_are_constants K g x z i j hx hz));
  }

pub closed_by_constants : ClosedByConstants
closed_by_constants K g set = (by_constants K g set, closed_from K g set)
