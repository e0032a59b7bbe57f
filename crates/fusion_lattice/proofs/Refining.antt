-- A string is finer than another exactly where the merging by it refines the merging by the other.
use Rattle.std.proofs.Common.{◌≡◌, ℕ, ◌<◌, List, length, slice_index, refl, sym, ◌∙◌, arith}
use Rattle.pair_colours.specs.Colouring.{PairColouring, Refines, colour_at}
use Rattle.pair_colours.specs.Naming.{rank_of}
use Rattle.struct_consts.specs.ClassData.{IsConfiguration}
use Rattle.colour_wl.specs.Fusions.{merge}
use Rattle.colour_wl.proofs.Classes.{colour_at-below}
use Rattle.colour_wl.proofs.ColourRounds.{strings_refine}
use Rattle.colour_wl.proofs.Merged.{colour_at-merge}
use Rattle.fusion_lattice.specs.Finer.{Finer}

pub refines_from_finer : (K : PairColouring) → IsConfiguration K → (a b : List ℕ) → length a ≡ rank_of K → Finer a b → Refines (merge K a) (merge K b)
refines_from_finer K h a b len f = record {
  sizes = refl;
  classes = λ x y u v hx hy hu hv e.
      at b x y hx hy
      ∙ f.holds (colour_at K x y) (colour_at K u v) (low x y hx hy) (low u v hu hv) (sym (at a x y hx hy) ∙ e ∙ at a u v hu hv)
      ∙ sym (at b u v hu hv);
}
  where
    at : (s : List ℕ) (x y : ℕ) → x < K.size → y < K.size → colour_at (merge K s) x y ≡ slice_index s (colour_at K x y)
    at s x y hx hy = colour_at-merge K h.colouring s x y hx hy

    low : (x y : ℕ) → x < K.size → y < K.size → colour_at K x y < length a
    low x y hx hy = omega (arith, colour_at-below K h x y hx hy, len)

pub finer_from_refines : (K : PairColouring) → IsConfiguration K → (a b : List ℕ) → length a ≡ rank_of K → Refines (merge K a) (merge K b) → Finer a b
finer_from_refines K h a b len r = record { holds = λ j k lj lk e. strings_refine K h a b r j k (omega (arith, lj, len)) (omega (arith, lk, len)) e }
