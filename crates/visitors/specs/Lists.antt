-- A list that is delivered to a visitor entry by entry, until its end or until there is no more room.
use Rattle.std.specs.Prelude.{◌≡◌, ℕ, List, length, take}

-- what was met is a front of the list that a definition tells
pub record IsFront (IsWhole : List (List ℕ) → Type 0) (met : List (List ℕ)) : Type 0 where
  pub front : (whole : List (List ℕ)) → IsWhole whole → met ≡ take (length met) whole

-- what was met is that list, cut after so many entries
pub record IsCut (IsWhole : List (List ℕ) → Type 0) (room : ℕ) (met : List (List ℕ)) : Type 0 where
  pub cut : (whole : List (List ℕ)) → IsWhole whole → met ≡ take room whole
