-- What holds of good sets.
use Rattle.std.specs.Prelude.{◌≡◌, ◌↔◌, nat_lt, ℕ, ◌≤◌, List, take, filter, Contains}
use Rattle.pair_colours.specs.Colouring.{PairColouring}
use Rattle.pair_colours.specs.Closure.{IsClosure}
use Rattle.pair_colours.specs.Naming.{rank_of}
use Rattle.pair_colours.specs.Subsets.{IsSetBelow}
use Rattle.struct_consts.specs.ClassData.{IsConfiguration}
use Rattle.colour_wl.specs.Fusions.{IsFusion}
use Rattle.colour_wl.specs.BlockSums.{places_of}
use Rattle.good_subsets.specs.GoodSets.{IsGood, IsGoodSets, in_or_not, IsOneClass}

-- a set of colours is good exactly where its pairs are one class of the closure of 'in the set or not'
abbrev pub GoodByClosure : Type 0
GoodByClosure = (K : PairColouring) → IsConfiguration K → (set : List ℕ) → IsSetBelow (rank_of K) set
    → (L : PairColouring) → IsClosure L (in_or_not K set) → IsGood K set ↔ IsOneClass K L set

-- the places of each number in the first n numbers of a fusion are the members below n of a good set
abbrev pub PrefixesAreGood : Type 0
PrefixesAreGood = (K : PairColouring) → IsConfiguration K → (a : List ℕ) → IsFusion K a → (n : ℕ) → n ≤ rank_of K
    → (number : ℕ) → Contains (take n a) number → (set : List ℕ) × IsGood K set × (filter (λ c. nat_lt c n) set ≡ places_of (take n a) number)

-- every configuration has one list of good sets
pub record OneListOfGoodSets : Type 0 where
  pub exists : (K : PairColouring) → (sets : List (List ℕ)) × IsGoodSets K sets
  pub unique : (K : PairColouring) (xs ys : List (List ℕ)) → IsGoodSets K xs → IsGoodSets K ys → xs ≡ ys
