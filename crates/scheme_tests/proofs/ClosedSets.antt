-- The least closed set that holds a class, and primitivity.
use Rattle.std.proofs.Common.{◌≡◌, ◌==◌, ◌&&◌, ℕ, suc, zero, ◌<◌, ◌≤◌, Bool, true, false, not, IsTrue, List, All, Any, ◌⊎◌, inl, inr, ⊎_elim, refl, sym, ap, subst, ◌∙◌, arith}
use Rattle.std.specs.Bool.{MatchBool, OnTrue, OnFalse}
use Rattle.std.specs.List.{list_any}
use Rattle.std.proofs.lemmas.List.{get_or_default}
use Rattle.std.proofs.lemmas.Bool.{cases_lt, cases_eq, cases_Bool, eq-eqb, eqb-true, ne_eqb, and_parts, and_from, both_ways, not_from_false}
use Rattle.std.proofs.lemmas.List.FromFn.{get_or-range_with_len, length-range_with_len}
use Rattle.std.proofs.lemmas.List.Folds.{Any-from_list_any}
use Rattle.pair_colours.specs.Colouring.{PairColouring, IsColour, colour_at, points}
use Rattle.pair_colours.specs.Naming.{rank_of}
use Rattle.pair_colours.specs.ClosedSet.{IsClosedSet}
use Rattle.pair_colours.specs.IntersectionNumber.{pair_of_class}
use Rattle.pair_colours.proofs.ListLemmas.{list_any-points}
use Rattle.struct_consts.specs.ClassData.{IsConfiguration}
use Rattle.struct_consts.proofs.LawProofs.{colours_are_below_rank, classes_have_pairs, triangles_move}
use Rattle.scheme_tests.specs.SchemeTests.{Homogeneous, HoldsDiagonal, HoldsAll, Primitive, Spans, HasProperSet}
use Rattle.scheme_tests.specs.Steps.{Path, Joined, mark_at, MarksReached}
use Rattle.scheme_tests.proofs.Paths.{Joined-refl, Joined-sym, Joined-trans, Joined-moved}

-- a closed set that holds a class holds the colour of each pair that a path along the class joins
path_in_set : (K : PairColouring) (set : ℕ → Bool) → IsClosedSet K set → (c : ℕ) → IsTrue (set c) → (m x y : ℕ) → x < K.size → y < K.size → Path K c m x y → IsTrue (set (colour_at K x y))
path_in_set K set h c t zero x y hx hy p = subst (λ z. IsTrue (set (colour_at K x z))) p (h.reflexive x hx)
path_in_set K set h c t (suc m) x y hx hy p =
    let step : IsTrue (set (colour_at K p.0 y)) = ⊎_elim
    (λ e. subst (λ d. IsTrue (set d)) (sym e) t)
    (λ e. h.symmetric y p.0 hy p.1 (subst (λ d. IsTrue (set d)) (sym e) t))
    p.3 in
    h.transitive x p.0 y hx p.1 hy (path_in_set K set h c t m x p.0 hx p.1 p.2) step

-- so a class that joins all points to point 0 spans everything
pub spans_from_marks : (K : PairColouring) → IsConfiguration K → (c : ℕ) (marks : List Bool) → MarksReached K c marks → ((y : ℕ) → y < K.size → mark_at marks y ≡ true) → Spans K c
spans_from_marks K g c marks r all = record {
  spans = λ set h t.
      let from : (y : ℕ) → y < K.size → IsTrue (set (colour_at K 0 y)) = λ y hy.
      let j = r.sound y hy (all y hy) in path_in_set K set h c t j.0 0 y zero_below hy j.1 in
      record { all = λ d u. subst (λ e. IsTrue (set e)) u.is (h.transitive u.x 0 u.y u.row zero_below u.column (h.symmetric 0 u.x zero_below u.row (from u.x u.row)) (from u.y u.column)) };
}
  where
    zero_below : 0 < K.size
    zero_below = omega (arith, g.colouring.has_points)

-- the colours from point 0 to the marked points
abbrev reached_set : PairColouring → List Bool → ℕ → Bool
reached_set K marks d = list_any (λ y. mark_at marks y && (colour_at K 0 y == d)) (points K.size)

in_set : (K : PairColouring) (marks : List Bool) (y d : ℕ) → y < K.size → mark_at marks y ≡ true → colour_at K 0 y ≡ d → reached_set K marks d ≡ true
in_set K marks y d hy m e = list_any-points (λ z. mark_at marks z && (colour_at K 0 z == d)) K.size y hy (and_from (mark_at marks y) (colour_at K 0 y == d) m (eq-eqb (colour_at K 0 y) d e))

of_set : (K : PairColouring) (marks : List Bool) (d : ℕ) → reached_set K marks d ≡ true → (y : ℕ) × (y < K.size) × (mark_at marks y ≡ true) × (colour_at K 0 y ≡ d)
of_set K marks d h =
    let a = Any-from_list_any (λ z. mark_at marks z && (colour_at K 0 z == d)) (points K.size) h in
    let l : a.0 < K.size = omega (arith, a.2, length-range_with_len 0 K.size) in
    let at : a.1 ≡ a.0 = omega (arith, a.3, get_or-range_with_len 0 K.size a.0 a.1 l) in
    let both = and_parts (mark_at marks a.1) (colour_at K 0 a.1 == d) a.4 in
    (a.0, l, ap (mark_at marks) (sym at) ∙ both.0, ap (colour_at K 0) (sym at) ∙ eqb-true (colour_at K 0 a.1) d both.1)

module _ (K : PairColouring) (g : IsConfiguration K) (h : Homogeneous K) (c : ℕ) (marks : List Bool) (r : MarksReached K c marks) where
  zero_in : 0 < K.size
  zero_in = omega (arith, g.colouring.has_points)

  -- the set holds the colours of the joined pairs
  joined_from_set : (x y : ℕ) → x < K.size → y < K.size → reached_set K marks (colour_at K x y) ≡ true → Joined K c x y
  joined_from_set x y hx hy t =
      let w = of_set K marks (colour_at K x y) t in
      Joined-moved K g.coherent c 0 w.0 x y zero_in w.1 hx hy w.3 (r.sound w.0 w.1 w.2)

  set_from_joined : (x y : ℕ) → x < K.size → y < K.size → Joined K c x y → reached_set K marks (colour_at K x y) ≡ true
  set_from_joined x y hx hy j =
      let w = triangles_move K g.coherent x x 0 0 y hx hx zero_in zero_in hy (h.one_fibre x 0 hx zero_in) in
      let there = Joined-moved K g.coherent c x y 0 w.0 hx hy zero_in w.1 (sym w.2) j in
      in_set K marks w.0 (colour_at K x y) w.1 (r.complete w.0 w.1 there) w.2

  reached_is_closed : IsClosedSet K (reached_set K marks)
  reached_is_closed = record {
    reflexive = λ x hx. set_from_joined x x hx hx (Joined-refl K c x);
    symmetric = λ x y hx hy t. set_from_joined y x hy hx (Joined-sym K c x y hy (joined_from_set x y hx hy t));
    transitive = λ x y z hx hy hz s t. set_from_joined x z hx hz (Joined-trans K c x y z (joined_from_set x y hx hy s) (joined_from_set y z hy hz t));
  }

  -- a class that leaves a point unmarked is in a closed set that is not everything
  pub proper_from_marks : c < rank_of K → (y : ℕ) → y < K.size → mark_at marks y ≡ false → HasProperSet K c
  proper_from_marks l y hy off =
      let p = (classes_have_pairs K g c l).1 in
      let x = (pair_of_class K c).0 in
      let z = (pair_of_class K c).1 in
      let one : Joined K c x z = (suc zero, (x, p.row, refl, inl p.colour)) in
      record {
        set = reached_set K marks;
        closed = reached_is_closed;
        holds = subst (λ d. reached_set K marks d ≡ true) p.colour (set_from_joined x z p.row p.column one);
        missing = colour_at K 0 y;
        colour = record { x = 0; y = y; row = zero_in; column = hy; is = refl };
        misses = λ t. both_ways (mark_at marks y) off (r.complete y hy (joined_from_set 0 y zero_in hy t));
      }

  -- so the marks decide whether the class spans everything
  pub spans_answer : c < rank_of K → (answer : Bool) → OnTrue answer (All (λ mark. mark ≡ true) marks) → OnFalse answer (Any (λ mark. mark ≡ false) marks)
      → MatchBool answer (Spans K c) (HasProperSet K c)
  spans_answer l true all some = spans_from_marks K g c marks r (λ y hy. all y false (omega (arith, hy, r.len)))
  spans_answer l false all some =
      proper_from_marks l some.0 (omega (arith, some.2, r.len)) (get_or_default marks some.0 false some.1 some.2 ∙ some.3 ∙ some.4)

-- a number below n passes a test, or none does
found_below : (p : ℕ → Bool) (n : ℕ) → ((k : ℕ) × (k < n) × (p k ≡ true)) ⊎ ((k : ℕ) → k < n → p k ≡ false)
found_below p zero = inr (λ k l. absurd (omega (arith, l)))
found_below p (suc n) = ⊎_elim
    (λ t. inl (n, omega arith, t))
    (λ f. ⊎_elim
    (λ s. inl (s.0, omega (arith, s.1), s.2))
    (λ none. inr (λ k l. ⊎_elim (λ (m : k < n). none k m) (λ (m : n ≤ k). let e : k ≡ n = omega (arith, l, m) in ap p e ∙ f) (cases_lt k n)))
    (found_below p n))
    (cases_Bool (p n))

-- where each class off the diagonal spans everything, no closed set lies between
pub primitive_from_spans : (K : PairColouring) → IsConfiguration K → Homogeneous K → 2 ≤ rank_of K
    → ((k : ℕ) → k < rank_of K → (k ≡ colour_at K 0 0 → ⊥) → Spans K k) → Primitive K
primitive_from_spans K g h two each = record {
  homogeneous = h;
  rank = two;
  trivial = λ set s. ⊎_elim (whole set s) (λ none. inl (record { alone = λ c u. (diagonal set none c u, λ e. subst (λ d. IsTrue (set d)) (sym e) (s.reflexive 0 zero_below)) }))
      (found_below (λ k. set k && not (k == colour_at K 0 0)) (rank_of K));
}
  where
    zero_below : 0 < K.size
    zero_below = omega (arith, g.colouring.has_points)

    whole : (set : ℕ → Bool) → IsClosedSet K set → (k : ℕ) × (k < rank_of K) × ((set k && not (k == colour_at K 0 0)) ≡ true) → HoldsDiagonal K set ⊎ HoldsAll K set
    whole set s f =
        let both = and_parts (set f.0) (not (f.0 == colour_at K 0 0)) f.2 in
        inr ((each f.0 f.1 (λ e. let t : not (f.0 == colour_at K 0 0) ≡ false = ap not (eq-eqb f.0 (colour_at K 0 0) e) in both_ways _ t both.1)).spans set s both.0)

    diagonal : (set : ℕ → Bool) → ((k : ℕ) → k < rank_of K → (set k && not (k == colour_at K 0 0)) ≡ false) → (c : ℕ) → IsColour K c → IsTrue (set c) → c ≡ colour_at K 0 0
    diagonal set none c u t = ⊎_elim
        (λ e. e)
        (λ ne. absurd (both_ways _ (none c ((colours_are_below_rank K g c).1 u)) (and_from (set c) (not (c == colour_at K 0 0)) t (not_from_false (c == colour_at K 0 0) (ne_eqb c (colour_at K 0 0) ne)))))
        (cases_eq c (colour_at K 0 0))

-- one class off the diagonal with a proper closed set is enough against it
pub not_primitive : (K : PairColouring) → IsConfiguration K → (k : ℕ) → k < rank_of K → (k ≡ colour_at K 0 0 → ⊥) → HasProperSet K k → Primitive K → ⊥
not_primitive K g k l ne s p = ⊎_elim
    (λ d. ne ((d.alone k ((colours_are_below_rank K g k).0 l)).0 s.holds))
    (λ a. s.misses (a.all s.missing s.colour))
    (p.trivial s.set s.closed)
