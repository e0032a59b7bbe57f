-- Fusions: coherent configurations got by merging the colours of one.
use Rattle.std.specs.Prelude.{ℕ, List, map, slice_index}
use Rattle.pair_colours.specs.Colouring.{PairColouring}
use Rattle.pair_colours.specs.Closure.{Coherent}
use Rattle.pair_colours.specs.Naming.{rank_of}
use Rattle.pair_colours.specs.Those.{AreThose}
use Rattle.colour_wl.specs.GrowthStrings.{IsGrowth, growth_strings, IsBefore}

-- each pair of colour c gets the colour a[c]
abbrev pub merge : PairColouring → List ℕ → PairColouring
merge K a = record { size = K.size; colours = map (slice_index a) K.colours }

-- merging by a gives a coherent colouring
abbrev pub Fuses : PairColouring → List ℕ → Type 0
Fuses K a = Coherent (merge K a)

-- and a comes after another string
abbrev pub FusesAfter : PairColouring → List ℕ → List ℕ → Type 0
FusesAfter K after a = IsBefore after a × Fuses K a

-- a is a fusion of K: a growth string that merges the colours of K to a coherent colouring
pub record IsFusion (K : PairColouring) (a : List ℕ) : Type 0 where
  pub growth : IsGrowth (rank_of K) a
  pub coherent : Fuses K a

-- the list of all fusions of K, in lexicographic order
abbrev pub IsFusions : PairColouring → List (List ℕ) → Type 0
IsFusions K fusions = AreThose (Fuses K) (growth_strings (rank_of K)) fusions

-- the list of those that come after a string
abbrev pub IsFusionsAfter : PairColouring → List ℕ → List (List ℕ) → Type 0
IsFusionsAfter K after fusions = AreThose (FusesAfter K after) (growth_strings (rank_of K)) fusions
