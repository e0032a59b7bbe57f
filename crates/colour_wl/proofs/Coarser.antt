-- Colourings that a configuration refines are its mergings.
use Rattle.std.proofs.Common.{◌≡◌, ℕ, ◌<◌, List, slice_index, sym, ◌∙◌, arith}
use Rattle.pair_colours.specs.Colouring.{PairColouring, IsColouring, Refines, colour_at}
use Rattle.pair_colours.specs.Closure.{Coherent, IsClosure, IsClosureOf}
use Rattle.pair_colours.specs.IntersectionNumber.{pair_of_class}
use Rattle.pair_colours.specs.Naming.{rank_of}
use Rattle.pair_colours.proofs.Closures.{Coherent-same, IsClosure-same}
use Rattle.pair_colours.proofs.LawProofs.{closure_exists}
use Rattle.pair_colours.proofs.Names.{named_of-same}
use Rattle.pair_colours.proofs.Places.{Refines-trans}
use Rattle.struct_consts.specs.ClassData.{IsConfiguration}
use Rattle.colour_wl.specs.GrowthStrings.{IsGrowth}
use Rattle.colour_wl.specs.Fusions.{merge, IsFusion}
use Rattle.colour_wl.proofs.Classes.{colour_at-below, pair_of_class-holds}
use Rattle.colour_wl.specs.Laws.{IsOneFusionTo}
use Rattle.colour_wl.proofs.ColourRounds.{same_from_refines}
use Rattle.colour_wl.proofs.Merged.{colour_at-merge, IsColouring-merge}
use Rattle.colour_wl.proofs.NamedMerges.{merge_named}
use Rattle.colour_wl.proofs.StringsOf.{IsStringOf, string_of}

-- the L-colour of a class of K
abbrev pub class_colour : PairColouring → PairColouring → ℕ → ℕ
class_colour K L c = colour_at L (pair_of_class K c).0 (pair_of_class K c).1

pub class_colour-at : (K L : PairColouring) → IsConfiguration K → Refines K L → (x y : ℕ) → x < K.size → y < K.size → class_colour K L (colour_at K x y) ≡ colour_at L x y
class_colour-at K L h r x y hx hy =
    let p = pair_of_class-holds K h (colour_at K x y) (colour_at-below K h x y hx hy) in
    r.classes _ _ x y p.row p.column hx hy p.colour

-- a string of the L-colours of the classes merges K to the classes of L
module _ (K L : PairColouring) (h : IsConfiguration K) (r : Refines K L) (a : List ℕ) (s : IsStringOf (class_colour K L) (rank_of K) a) where
  at : (x y : ℕ) → x < K.size → y < K.size → colour_at (merge K a) x y ≡ slice_index a (colour_at K x y)
  at x y hx hy = colour_at-merge K h.colouring a x y hx hy

  low : (x y : ℕ) → x < K.size → y < K.size → colour_at K x y < rank_of K
  low x y hx hy = colour_at-below K h x y hx hy

  pub merge_coarser : Refines L (merge K a)
  merge_coarser = record {
    sizes = sym r.sizes;
    classes = λ x y u v hx hy hu hv e.
        let to : (z : ℕ) → z < L.size → z < K.size = λ z hz. omega (arith, hz, r.sizes) in
        at x y (to x hx) (to y hy)
        ∙ s.together _ _ (low x y (to x hx) (to y hy)) (low u v (to u hu) (to v hv))
        (class_colour-at K L h r x y (to x hx) (to y hy) ∙ e ∙ sym (class_colour-at K L h r u v (to u hu) (to v hv)))
        ∙ sym (at u v (to u hu) (to v hv));
  }

  pub merge_finer : Refines (merge K a) L
  merge_finer = record {
    sizes = r.sizes;
    classes = λ x y u v hx hy hu hv e.
        sym (class_colour-at K L h r x y hx hy)
        ∙ s.apart _ _ (low x y hx hy) (low u v hu hv) (sym (at x y hx hy) ∙ e ∙ at u v hu hv)
        ∙ class_colour-at K L h r u v hu hv;
  }

-- each coherent colouring that K refines is that of a fusion
pub fusion_of_coarser : (K L : PairColouring) → IsConfiguration K → IsColouring L → Coherent L → Refines K L → (a : List ℕ) × IsFusion K a × IsStringOf (class_colour K L) (rank_of K) a
fusion_of_coarser K L h c l r =
    let s = string_of (class_colour K L) (rank_of K) in
    let a : List ℕ = s.0 in
    (a, record { growth = s.1.growth; coherent = Coherent-same L (merge K a) c l (merge_coarser K L h r a s.1) (merge_finer K L h r a s.1) }, s.1)

-- and that of no other
pub one_fusion_of_coarser : (K L : PairColouring) → IsConfiguration K → IsColouring L → Coherent L → Refines K L → (a : List ℕ) × IsOneFusionTo K L a
one_fusion_of_coarser K L h c l r =
    let f = fusion_of_coarser K L h c l r in
    let a : List ℕ = f.0 in
    let finer : Refines (merge K a) L = merge_finer K L h r a f.2 in
    let coarser : Refines L (merge K a) = merge_coarser K L h r a f.2 in (
      a,
      record {
        fusion = f.1;
        merges = record { finer = finer; coarser = coarser };
        named = sym (merge_named K h a f.1.growth) ∙ named_of-same (merge K a) L (IsColouring-merge K h.colouring a) c finer coarser;
        only = λ b g p. same_from_refines K h b a g f.1.growth (Refines-trans (merge K b) L (merge K a) p.finer coarser) (Refines-trans (merge K a) L (merge K b) finer p.coarser);
      },
    )

-- the closure of a colouring that K refines is the merging of K by a fusion
pub closed_by_fusion : (K M : PairColouring) → IsConfiguration K → IsColouring M → Refines K M → (b : List ℕ) × IsFusion K b × IsClosureOf (merge K b) M
closed_by_fusion K M h c r =
    let L = closure_exists M c in
    let below : Refines K L.0 = L.1.coarsest K h.colouring h.coherent r in
    let b = fusion_of_coarser K L.0 h L.1.colouring L.1.coherent below in (
      b.0,
      b.1,
      record {
        closure = IsClosure-same L.0 (merge K b.0) M L.1 (IsColouring-merge K h.colouring b.0) (merge_coarser K L.0 h below b.0 b.2) (merge_finer K L.0 h below b.0 b.2);
        named = merge_named K h b.0 b.1.growth;
      },
    )

-- and by no other growth string
pub one_closing : (K M : PairColouring) → IsConfiguration K → (a b : List ℕ) → IsGrowth (rank_of K) a → IsGrowth (rank_of K) b → IsClosure (merge K a) M → IsClosure (merge K b) M → a ≡ b
one_closing K M h a b g k c d =
    same_from_refines K h a b g k
    (d.coarsest (merge K a) c.colouring c.coherent c.refines)
    (c.coarsest (merge K b) d.colouring d.coherent d.refines)
