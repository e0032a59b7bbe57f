-- The points that a class reaches from point 0 are decided, and so whether it spans everything.
use Rattle.std.proofs.Common.{◌≡◌, ◌==◌, ◌||◌, ℕ, suc, zero, ◌<◌, Bool, true, false, List, map, ◌⊎◌, inl, inr, ⊎_elim, sym, ◌∙◌, arith}
use Rattle.std.proofs.lemmas.Bool.{cases_Bool, eq-eqb, eqb-true, or_cases, or_left, or_right}
use Rattle.std.proofs.lemmas.List.FromFn.{get_or-map-range_with_len, length-map-range_with_len}
use Rattle.pair_colours.specs.Colouring.{PairColouring, colour_at, points}
use Rattle.pair_colours.specs.Naming.{rank_of}
use Rattle.pair_colours.proofs.Reaching.{PathOf, reaches, Decides-path, each_below}
use Rattle.struct_consts.specs.ClassData.{IsConfiguration}
use Rattle.scheme_tests.specs.SchemeTests.{Homogeneous, Spans, HasProperSet}
use Rattle.scheme_tests.specs.Steps.{Step, Path, mark_at, MarksReached}
use Rattle.scheme_tests.proofs.ClosedSets.{spans_from_marks, proper_from_marks}

-- whether two points are a step apart
abbrev pub is_step : PairColouring → ℕ → ℕ → ℕ → Bool
is_step K c x y = (colour_at K x y == c) || (colour_at K y x == c)

step_tells : (K : PairColouring) (c x y : ℕ) → is_step K c x y ≡ true → Step K c x y
step_tells K c x y t = ⊎_elim
    (λ e. inl (eqb-true (colour_at K x y) c e))
    (λ e. inr (eqb-true (colour_at K y x) c e))
    (or_cases (colour_at K x y == c) (colour_at K y x == c) t)

step_passes : (K : PairColouring) (c x y : ℕ) → Step K c x y → is_step K c x y ≡ true
step_passes K c x y s = ⊎_elim
    (λ e. or_left (colour_at K x y == c) (colour_at K y x == c) (eq-eqb (colour_at K x y) c e))
    (λ e. or_right (colour_at K x y == c) (colour_at K y x == c) (eq-eqb (colour_at K y x) c e))
    s

along_class : (K : PairColouring) (c x m y : ℕ) → PathOf (is_step K c) K.size x m y → Path K c m x y
along_class K c x zero y p = p
along_class K c x (suc m) y p = (p.0, p.1, along_class K c x m p.0 p.2, step_tells K c p.0 y p.3)

by_steps : (K : PairColouring) (c x m y : ℕ) → Path K c m x y → PathOf (is_step K c) K.size x m y
by_steps K c x zero y p = p
by_steps K c x (suc m) y p = (p.0, p.1, by_steps K c x m p.0 p.2, step_passes K c p.0 y p.3)

-- the marks of the points that are reached
abbrev pub marks_of : PairColouring → ℕ → List Bool
marks_of K c = map (λ y. reaches (is_step K c) K.size 0 K.size y) (points K.size)

pub MarksReached-marks_of : (K : PairColouring) (c : ℕ) → 0 < K.size → MarksReached K c (marks_of K c)
MarksReached-marks_of K c one = record {
  len = length-map-range_with_len (λ y. reaches (is_step K c) K.size 0 K.size y) 0 K.size;
  sound = λ y hy t.
      let p = (Decides-path (is_step K c) K.size 0 one y hy).0 (sym (at y hy) ∙ t) in
      (p.0, along_class K c 0 p.0 y p.1);
  complete = λ y hy j. at y hy ∙ (Decides-path (is_step K c) K.size 0 one y hy).1 (j.0, by_steps K c 0 j.0 y j.1);
}
  where
    at : (y : ℕ) → y < K.size → mark_at (marks_of K c) y ≡ reaches (is_step K c) K.size 0 K.size y
    at y hy = get_or-map-range_with_len (λ z. reaches (is_step K c) K.size 0 K.size z) 0 K.size y y false hy (omega arith)

-- a class spans everything, or is in a closed set that is not everything
pub spans_or_proper : (K : PairColouring) → IsConfiguration K → Homogeneous K → (c : ℕ) → c < rank_of K → Spans K c ⊎ HasProperSet K c
spans_or_proper K g h c l =
    let marks = marks_of K c in
    let r = MarksReached-marks_of K c (omega (arith, g.colouring.has_points)) in
    ⊎_elim
    (λ all. inl (spans_from_marks K g c marks r all))
    (λ s. inr (proper_from_marks K g h c marks r l s.0 s.1 s.2))
    (each_below (λ y. mark_at marks y ≡ true) (λ y. mark_at marks y ≡ false) K.size (λ y _. cases_Bool (mark_at marks y)))
