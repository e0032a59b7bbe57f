-- Numbers that tell whether between two classes the same colours are met as between two others.
use Rattle.std.proofs.Common.{◌≡◌, ◌==◌, ◌&&◌, ◌↔◌, ℕ, ◌+◌, ◌*◌, ◌/◌, ◌%◌, ◌<◌, ◌≤◌, Bool, true, List, length, get_or, refl, sym, subst, ◌∙◌, arith}
use Rattle.std.specs.List.{list_any, position_or_len}
use Rattle.std.proofs.lemmas.Bool.{eqb-true, eq-eqb, and_parts, and_from}
use Rattle.std.proofs.lemmas.Nat.{div-mul-add, mod-mul-add}
use Rattle.pair_colours.specs.Colouring.{PairColouring, colour_at, points}
use Rattle.pair_colours.proofs.Exists.{by_pairs, colour_at-by_pairs, IsColouring-by_pairs}
use Rattle.pair_colours.proofs.ListLemmas.{list_any-points}
use Rattle.pair_colours.proofs.Places.{place_below, row_below, column_below}
use Rattle.pair_colours.proofs.Reaching.{point_from_any}
use Rattle.quotients.specs.Quotient.{IsMet, MeetSame, least_of, classes}
use Rattle.quotients.specs.Steps.{AreLeasts, IsBetween, IsLeastMet, IsPicked}
use Rattle.quotients.specs.Law.{IsParted}
use Rattle.quotients.proofs.Points.{first_within, first_agree, filtered_at, filtered_has}
use Rattle.quotients.proofs.Leasts.{bool_same, least_in, least_same, same_least, least_least}
use Rattle.quotients.proofs.Meets.{met_self, same_or_disjoint}
use Rattle.quotients.proofs.Namings.{Tells}

-- the least point of a class in the list of classes
pub first_at : (K : PairColouring) (S : ℕ → Bool) (s : ℕ) → s < length (classes K S) → (get_or (classes K S) s 0 < K.size) × (least_of K S (get_or (classes K S) s 0) ≡ get_or (classes K S) s 0)
first_at K S s l = let a = filtered_at (λ x. least_of K S x == x) K.size s l in (a.0, eqb-true _ _ a.1)

-- there is a class
pub some_class : (K : PairColouring) (S : ℕ → Bool) → IsParted K S → 1 ≤ length (classes K S)
some_class K S p =
    let a = least_in K S p.closed 0 p.colouring.has_points in
    let h = filtered_has (λ x. least_of K S x == x) K.size (least_of K S 0) a.0 (eq-eqb _ _ (least_least K S p.closed 0 p.colouring.has_points)) in
    omega (arith, h.0)

module _ (K : PairColouring) (S : ℕ → Bool) (p : IsParted K S) (ls : List ℕ) (a : AreLeasts K S ls) (M : PairColouring) (m : IsLeastMet K ls M) where
  -- what is between points with the least points of x and y is met between the classes
  met_between : (x y d : ℕ) → x < K.size → y < K.size → IsBetween K ls (get_or ls x 0) (get_or ls y 0) d → IsMet K S x y d
  met_between x y d hx hy b = record {
    from = b.from;
    to = b.to;
    row = b.row;
    column = b.column;
    near = same_least K S p.closed x b.from hx b.row (sym (a.is x hx) ∙ sym b.near ∙ a.is b.from b.row);
    far = same_least K S p.closed y b.to hy b.column (sym (a.is y hy) ∙ sym b.far ∙ a.is b.to b.column);
    is = b.is;
  }

  least_below : (x y d : ℕ) → x < K.size → y < K.size → IsMet K S x y d → colour_at M (get_or ls x 0) (get_or ls y 0) ≤ d
  least_below x y d hx hy w =
      let row : get_or ls x 0 ≡ get_or ls w.from 0 = a.is x hx ∙ least_same K S p.closed x w.from hx w.row w.near ∙ sym (a.is w.from w.row) in
      let column : get_or ls y 0 ≡ get_or ls w.to 0 = a.is y hy ∙ least_same K S p.closed y w.to hy w.column w.far ∙ sym (a.is w.to w.column) in
      let same : colour_at M (get_or ls x 0) (get_or ls y 0) ≡ colour_at M (get_or ls w.from 0) (get_or ls w.to 0) = λ i. colour_at M (row i) (column i) in
      omega (arith, same, m.least w.from w.to w.row w.column, w.is)

  least_tells : (x y u v : ℕ) → x < K.size → y < K.size → u < K.size → v < K.size
      → colour_at M (get_or ls x 0) (get_or ls y 0) ≡ colour_at M (get_or ls u 0) (get_or ls v 0) ↔ MeetSame K S x y u v
  least_tells x y u v hx hy hu hv =
      let first = met_between x y _ hx hy (m.met x y hx hy) in
      let second = met_between u v _ hu hv (m.met u v hu hv) in (
        λ e. same_or_disjoint K S p.coherent p.closed x y u v (colour_at M (get_or ls u 0) (get_or ls v 0)) hx hy hu hv (subst (IsMet K S x y) e first) second,
        λ w.
            let le = least_below x y _ hx hy ((w.colours _).1 second) in
            let ge = least_below u v _ hu hv ((w.colours _).0 first) in
            omega (arith, le, ge),
      )

  pub tells_from_least : Tells K S M
  tells_from_least = record {
    same = λ s t x y hs ht hx hy.
        let c = classes K S in
        let own : (z : ℕ) → z < length c → get_or ls (get_or c z 0) 0 ≡ get_or c z 0 = λ z l.
        let f = first_at K S z l in a.is (get_or c z 0) f.0 ∙ f.1 in
        let here : (z w : ℕ) → z < length c → w < length c → colour_at M (get_or ls (get_or c z 0) 0) (get_or ls (get_or c w 0) 0) ≡ colour_at M (get_or c z 0) (get_or c w 0) = λ z w l k.
        λ i. colour_at M (own z l i) (own w k i) in
        let both = least_tells (get_or c s 0) (get_or c t 0) (get_or c x 0) (get_or c y 0) (first_at K S s hs).0 (first_at K S t ht).0 (first_at K S x hx).0 (first_at K S y hy).0 in (
          λ e. both.0 (here s t hs ht ∙ e ∙ sym (here x y hx hy)),
          λ e. sym (here s t hs ht) ∙ both.1 e ∙ here x y hx hy,
        );
  }

-- whether a colour is met between the classes of x and y
abbrev meets : PairColouring → (ℕ → Bool) → ℕ → ℕ → ℕ → Bool
meets K S x y d = list_any (λ q. S (colour_at K x (q / K.size)) && (S (colour_at K y (q % K.size)) && (colour_at K (q / K.size) (q % K.size) == d))) (points (K.size * K.size))

meets_from : (K : PairColouring) (S : ℕ → Bool) (x y d : ℕ) → IsMet K S x y d → meets K S x y d ≡ true
meets_from K S x y d m =
    let n = K.size in
    let q = m.from * n + m.to in
    let test : ℕ → ℕ → Bool = λ a b. S (colour_at K x a) && (S (colour_at K y b) && (colour_at K a b == d)) in
    let row : q / n ≡ m.from = div-mul-add m.from n m.to m.column in
    let column : q % n ≡ m.to = mod-mul-add m.from n m.to m.column in
    list_any-points (λ q. test (q / n) (q % n)) (n * n) q (place_below n m.from m.to m.row m.column)
    ((λ i. test (row i) (column i)) ∙ and_from _ _ m.near (and_from _ _ m.far (eq-eqb _ _ m.is)))

met_from_meets : (K : PairColouring) (S : ℕ → Bool) (x y d : ℕ) → 1 ≤ K.size → meets K S x y d ≡ true → IsMet K S x y d
met_from_meets K S x y d h e =
    let n = K.size in
    let w = point_from_any (λ q. S (colour_at K x (q / n)) && (S (colour_at K y (q % n)) && (colour_at K (q / n) (q % n) == d))) (n * n) e in
    let near = and_parts _ _ w.2 in
    let far = and_parts _ _ near.1 in
    record { from = w.0 / n; to = w.0 % n; row = row_below n w.0 h w.1; column = column_below n w.0 h; near = near.0; far = far.0; is = eqb-true _ _ far.1 }

-- the first place whose colour is met
abbrev first_met_place : PairColouring → (ℕ → Bool) → ℕ → ℕ → ℕ
first_met_place K S x y = position_or_len (λ q. meets K S x y (get_or K.colours q 0)) (points (K.size * K.size))

module _ (K : PairColouring) (S : ℕ → Bool) (p : IsParted K S) where
  meets_self : (x y : ℕ) → x < K.size → y < K.size → meets K S x y (get_or K.colours (x * K.size + y) 0) ≡ true
  meets_self x y hx hy = meets_from K S x y (colour_at K x y) (met_self K S p.coherent p.closed x y hx hy)

  place_tells : (x y u v : ℕ) → x < K.size → y < K.size → u < K.size → v < K.size → first_met_place K S x y ≡ first_met_place K S u v ↔ MeetSame K S x y u v
  place_tells x y u v hx hy hu hv =
      let n = K.size in
      let first = first_within (λ q. meets K S x y (get_or K.colours q 0)) (n * n) (x * n + y) (place_below n x y hx hy) (meets_self x y hx hy) in
      let second = first_within (λ q. meets K S u v (get_or K.colours q 0)) (n * n) (u * n + v) (place_below n u v hu hv) (meets_self u v hu hv) in (
        λ e.
            let d = get_or K.colours (first_met_place K S u v) 0 in
            same_or_disjoint K S p.coherent p.closed x y u v d hx hy hu hv
            (met_from_meets K S x y d p.colouring.has_points (subst (λ q. meets K S x y (get_or K.colours q 0) ≡ true) e first.1))
            (met_from_meets K S u v d p.colouring.has_points second.1),
        λ w. first_agree (λ q. meets K S x y (get_or K.colours q 0)) (λ q. meets K S u v (get_or K.colours q 0)) (n * n) (x * n + y) (place_below n x y hx hy) (meets_self x y hx hy)
            (λ q l. let d = get_or K.colours q 0 in
            bool_same _ _
            (λ t. meets_from K S u v d ((w.colours d).0 (met_from_meets K S x y d p.colouring.has_points t)))
            (λ t. meets_from K S x y d ((w.colours d).1 (met_from_meets K S u v d p.colouring.has_points t)))),
      )

  pub tells_from_places : Tells K S (by_pairs K.size (first_met_place K S))
  tells_from_places = record {
    same = λ s t x y hs ht hx hy.
        let c = classes K S in
        let at : (z w : ℕ) → z < length c → w < length c → colour_at (by_pairs K.size (first_met_place K S)) (get_or c z 0) (get_or c w 0) ≡ first_met_place K S (get_or c z 0) (get_or c w 0) = λ z w l k.
        colour_at-by_pairs K.size (first_met_place K S) (get_or c z 0) (get_or c w 0) (first_at K S z l).0 (first_at K S w k).0 in
        let both = place_tells (get_or c s 0) (get_or c t 0) (get_or c x 0) (get_or c y 0) (first_at K S s hs).0 (first_at K S t ht).0 (first_at K S x hx).0 (first_at K S y hy).0 in (
          λ e. both.0 (sym (at s t hs ht) ∙ e ∙ at x y hx hy),
          λ e. at s t hs ht ∙ both.1 e ∙ sym (at x y hx hy),
        );
  }

-- each colouring has its part on a list of points
pub part_exists : (K : PairColouring) (ps : List ℕ) → 1 ≤ length ps → IsPicked K ps (by_pairs (length ps) (λ s t. colour_at K (get_or ps s 0) (get_or ps t 0)))
part_exists K ps h = record {
  colouring = IsColouring-by_pairs (length ps) (λ s t. colour_at K (get_or ps s 0) (get_or ps t 0)) h;
  size = refl;
  is = λ s t hs ht. colour_at-by_pairs (length ps) (λ s t. colour_at K (get_or ps s 0) (get_or ps t 0)) s t hs ht;
}
