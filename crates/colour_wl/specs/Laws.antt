-- What holds of all fusions.
use Rattle.std.specs.Prelude.{◌≡◌, ◌↔◌, ℕ, List, ◌∷◌, ◌++◌, AllPairs, Contains}
use Rattle.pair_colours.specs.Colouring.{PairColouring, IsColouring, Refines, IsSamePartition}
use Rattle.pair_colours.specs.Closure.{Coherent}
use Rattle.pair_colours.specs.Naming.{rank_of, named_of}
use Rattle.struct_consts.specs.ClassData.{IsConfiguration}
use Rattle.colour_wl.specs.GrowthStrings.{IsGrowth, growth_strings, IsBefore}
use Rattle.colour_wl.specs.Fusions.{merge, IsFusion, IsFusions, IsFusionsAfter}
use Rattle.colour_wl.specs.BlockSums.{HasCoherentBlocks}

-- the list of growth strings has all of them, in strict lexicographic order
pub record GrowthStringsAreAll : Type 0 where
  pub all : (r : ℕ) (a : List ℕ) → Contains (growth_strings r) a ↔ IsGrowth r a
  pub in_order : (r : ℕ) → AllPairs IsBefore (growth_strings r)

-- every colouring has one list of fusions, and one of those after a string
pub record OneListOfFusions : Type 0 where
  pub exists : (K : PairColouring) → (fusions : List (List ℕ)) × IsFusions K fusions
  pub unique : (K : PairColouring) (xs ys : List (List ℕ)) → IsFusions K xs → IsFusions K ys → xs ≡ ys
  pub exists_after : (K : PairColouring) (after : List ℕ) → (fusions : List (List ℕ)) × IsFusionsAfter K after fusions
  pub unique_after : (K : PairColouring) (after : List ℕ) (xs ys : List (List ℕ)) → IsFusionsAfter K after xs → IsFusionsAfter K after ys → xs ≡ ys

-- what follows a fusion on the list are the fusions after it, so pieces that are resumed join to the whole list
abbrev pub FusionsResume : Type 0
FusionsResume = (K : PairColouring) (front rest : List (List ℕ)) (after : List ℕ) → IsFusions K (front ++ after ∷ rest) → IsFusionsAfter K after rest

-- merging by a growth string is coherent exactly where its blocks are, by the structure constants
abbrev pub FusionsBySums : Type 0
FusionsBySums = (K : PairColouring) → IsConfiguration K → (a : List ℕ) → IsGrowth (rank_of K) a → Coherent (merge K a) ↔ HasCoherentBlocks K a

-- a is a fusion that merges K to the classes of L, so to L itself where L is named, and no other growth string does
pub record IsOneFusionTo (K L : PairColouring) (a : List ℕ) : Type 0 where
  pub fusion : IsFusion K a
  pub merges : IsSamePartition (merge K a) L
  pub named : merge K a ≡ named_of L
  pub only : (b : List ℕ) → IsGrowth (rank_of K) b → IsSamePartition (merge K b) L → b ≡ a

-- each coherent colouring that a configuration refines is its merging by exactly one fusion
abbrev pub CoarserAreMergings : Type 0
CoarserAreMergings = (K L : PairColouring) → IsConfiguration K → IsColouring L → Coherent L → Refines K L → (a : List ℕ) × IsOneFusionTo K L a
