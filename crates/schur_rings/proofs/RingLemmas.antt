-- Closures on the elements: there is one, and it is row 0 of the closure of the Cayley colouring.
use Rattle.std.proofs.Common.{◌≡◌, ℕ, ◌<◌, List, length, slice_index, refl, sym, ap, subst, ◌∙◌, arith}
use Rattle.std.proofs.lemmas.Grind.{same_number_lists}
use Rattle.std.proofs.lemmas.List.FromFn.{get_or-map-range_with_len, length-map-range_with_len}
use Rattle.pair_colours.specs.Colouring.{PairColouring, IsColouring, Refines, colour_at}
use Rattle.pair_colours.specs.Closure.{IsClosureOf}
use Rattle.pair_colours.specs.Lists.{Determines}
use Rattle.pair_colours.proofs.LawProofs.{named_closure_exists, named_closure_is_unique}
use Rattle.pair_colours.proofs.Places.{Refines-trans}
use Rattle.colour_wl.specs.Fusions.{merge}
use Rattle.schur_rings.specs.Group.{IsGroup, quotient}
use Rattle.schur_rings.specs.Laws.{RingExists, RingIsUnique, RingIsFirstRow, first_row}
use Rattle.schur_rings.specs.Ring.{RingOf, cayley}
use Rattle.schur_rings.specs.Thin.{thin_of}
use Rattle.schur_rings.proofs.GroupLemmas.{unit_below, quotient_below, quotient_by_unit}
use Rattle.schur_rings.proofs.ThinCoherence.{thin_is_coherent}
use Rattle.pair_colours.proofs.SameColours.{same_colouring}
use Rattle.schur_rings.proofs.ThinLemmas.{thin_at, cayley_at, IsColouring-thin, IsColouring-cayley, thin_refines, merge-thin}

pub first_row_at : (K : PairColouring) (y : ℕ) → y < K.size → slice_index (first_row K) y ≡ colour_at K 0 y
first_row_at K y l = get_or-map-range_with_len (colour_at K 0) 0 K.size y y 0 l (omega arith)

pub length-first_row : (K : PairColouring) → length (first_row K) ≡ K.size
length-first_row K = length-map-range_with_len (colour_at K 0) 0 K.size

-- row 0 of a Cayley colouring
pub first_row-cayley : (T : PairColouring) → IsGroup T → (f : List ℕ) → length f ≡ T.size → first_row (cayley T f) ≡ f
first_row-cayley T g f len =
    same_number_lists (first_row (cayley T f)) f (length-first_row (cayley T f) ∙ sym len)
    (λ y l.
    let low : y < T.size = omega (arith, l, length-first_row (cayley T f)) in
    first_row_at (cayley T f) y low ∙ cayley_at T f 0 y (unit_below T g) low ∙ ap (slice_index f) (quotient_by_unit T g y low))

-- what the thin scheme refines is the Cayley colouring of its row 0
pub cayley-first_row : (T : PairColouring) → IsGroup T → (K : PairColouring) → IsColouring K → Refines (thin_of T) K → cayley T (first_row K) ≡ K
cayley-first_row T g K k r =
    same_colouring (cayley T (first_row K)) K (IsColouring-cayley T (first_row K) g.colouring) k (record {
      sizes = r.sizes;
      colours = λ x y hx hy.
          let q : ℕ = quotient T x y in
          let hq : q < T.size = quotient_below T g x y hx hy in
          let h0 : 0 < T.size = unit_below T g in
          cayley_at T (first_row K) x y hx hy
          ∙ first_row_at K q (omega (arith, hq, r.sizes))
          ∙ r.classes 0 q x y h0 hq hx hy (thin_at T 0 q h0 hq ∙ quotient_by_unit T g q hq ∙ sym (thin_at T x y hx hy));
    })

pub ring_exists : RingExists
ring_exists T f g len =
    let K = named_closure_exists (cayley T f) (IsColouring-cayley T f g.colouring) in
    let r : Refines (thin_of T) K.0 = K.1.closure.coarsest (thin_of T) (IsColouring-thin T g.colouring) (thin_is_coherent T g) (thin_refines T f) in
    let same : cayley T (first_row K.0) ≡ K.0 = cayley-first_row T g K.0 K.1.closure.colouring r in (
      first_row K.0,
      record { len = length-first_row K.0 ∙ sym r.sizes; closure = subst (λ L. IsClosureOf L (cayley T f)) (sym same) K.1 },
    )

pub ring_is_first_row : RingIsFirstRow
ring_is_first_row T K f h g len r k =
    sym (first_row-cayley T g h r.len) ∙ ap first_row (named_closure_is_unique (cayley T f) (cayley T h) K (IsColouring-cayley T f g.colouring) r.closure k)

pub ring_is_unique : RingIsUnique
ring_is_unique T f h k g len r s = ring_is_first_row T (cayley T k) f h g len r s.closure ∙ first_row-cayley T g k s.len

-- colourings with the same classes have the same closures
pub closure_of_same : (K A B : PairColouring) → Refines A B → Refines B A → IsClosureOf K A → IsClosureOf K B
closure_of_same K A B r s k = record {
  closure = record {
    colouring = k.closure.colouring;
    coherent = k.closure.coherent;
    refines = Refines-trans K A B k.closure.refines r;
    coarsest = λ Q q h t. k.closure.coarsest Q q h (Refines-trans Q B A t s);
  };
  named = k.named;
}

-- where one list determines another, its Cayley colouring refines that of the other
pub cayley_refines : (T : PairColouring) → IsGroup T → (a b : List ℕ) → length a ≡ T.size → Determines a b → Refines (cayley T a) (cayley T b)
cayley_refines T g a b len d = record {
  sizes = refl;
  classes = λ x y u v hx hy hu hv e.
      let hq : quotient T x y < length a = omega (arith, quotient_below T g x y hx hy, len) in
      let hr : quotient T u v < length a = omega (arith, quotient_below T g u v hu hv, len) in
      cayley_at T b x y hx hy
      ∙ d.holds (quotient T x y) (quotient T u v) hq hr (sym (cayley_at T a x y hx hy) ∙ e ∙ cayley_at T a u v hu hv)
      ∙ sym (cayley_at T b u v hu hv);
}

-- a closure that was found by merging the colours of the thin scheme
pub ring_of_closed : (T K : PairColouring) (f a b : List ℕ) → IsGroup T → K ≡ thin_of T → length f ≡ T.size → length a ≡ T.size → length b ≡ T.size
    → Determines a f → Determines f a → IsClosureOf (merge K b) (merge K a) → RingOf T f b
ring_of_closed T K f a b g k lf la lb d e c =
    let to : (s : List ℕ) → merge K s ≡ cayley T s = λ s. ap (λ (L : PairColouring). merge L s) k ∙ merge-thin T s in
    record {
      len = lb;
      closure = closure_of_same (cayley T b) (cayley T a) (cayley T f) (cayley_refines T g a f la d) (cayley_refines T g f a lf e)
          (subst (λ L. IsClosureOf L (cayley T a)) (to b) (subst (IsClosureOf (merge K b)) (to a) c));
    }
