-- The list of fusions that is asked for, and pieces of it.
use Rattle.std.specs.Prelude.{◌≡◌, ℕ, ◌<◌, List, ◌++◌, length, take, Option, None, Some, ⊤}
use Rattle.std.specs.Borrow.{Bor}
use Rattle.pair_colours.specs.Colouring.{PairColouring}
use Rattle.pair_colours.specs.Naming.{rank_of}
use Rattle.colour_wl.specs.GrowthStrings.{IsGrowth}
use Rattle.colour_wl.specs.Fusions.{IsFusions, IsFusionsAfter}

-- the list of all fusions of K, or of those after the string that is given
abbrev pub IsMergings : PairColouring → Option (Bor (List ℕ)) → List (List ℕ) → Type 0
IsMergings K None fusions = IsFusions K fusions
IsMergings K (Some after) fusions = IsFusionsAfter K after.now fusions

-- a string is given that is no growth string of this length
abbrev pub IsNoGrowth : ℕ → Option (Bor (List ℕ)) → Type 0
IsNoGrowth rank None = ⊥
IsNoGrowth rank (Some after) = ¬ IsGrowth rank after.now

-- if a string is given it is a growth string of this length
abbrev pub IsGrowthOrNone : ℕ → Option (Bor (List ℕ)) → Type 0
IsGrowthOrNone rank None = ⊤
IsGrowthOrNone rank (Some after) = IsGrowth rank after.now

-- what was met before, with a list, is what is met now, with those fusions that come after a string
pub record IsResumed (K : PairColouring) (IsWhole : List (List ℕ) → Type 0) (old new : List (List ℕ)) (string : List ℕ) : Type 0 where
  pub growth : IsGrowth (rank_of K) string
  pub rest : List (List ℕ)
  pub are : IsFusionsAfter K string rest
  pub split : (whole : List (List ℕ)) → IsWhole whole → old ++ whole ≡ new ++ rest
  pub more : length old < length new

-- what is met now is a front of what was met before with a list
pub record IsFrontOf (IsWhole : List (List ℕ) → Type 0) (old new : List (List ℕ)) : Type 0 where
  pub front : (whole : List (List ℕ)) → IsWhole whole → new ≡ take (length new) (old ++ whole)

-- it is all of it, cut after so many entries
pub record IsAllOf (IsWhole : List (List ℕ) → Type 0) (room : ℕ) (old new : List (List ℕ)) : Type 0 where
  pub all : (whole : List (List ℕ)) → IsWhole whole → new ≡ take room (old ++ whole)
