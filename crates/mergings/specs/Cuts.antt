-- Lists that are delivered entry by entry and cut where there is no more room.
use Rattle.std.specs.Prelude.{◌≡◌, ℕ, ◌+◌, ◌-◌, List, [], ◌∷◌, ◌++◌, length, take, slice_index}
use Rattle.std.specs.List.{flat_map, range_with_len}
use Rattle.pair_colours.specs.Those.{AreThose}
use Rattle.colour_wl.specs.GrowthStrings.{next_number, growth_from}

-- a front of those members of the list that satisfy P was added
pub record IsDelivered (P : List ℕ → Type 0) (all old new : List (List ℕ)) : Type 0 where
  pub those : List (List ℕ)
  pub are : AreThose P all those
  pub missing : List (List ℕ)
  pub front : new ++ missing ≡ old ++ those

-- all of them were added
pub record IsDeliveredWhole (P : List ℕ → Type 0) (all old new : List (List ℕ)) : Type 0 where
  pub those : List (List ℕ)
  pub are : AreThose P all those
  pub whole : new ≡ old ++ those

-- what was met is a list, cut after so many entries
pub record IsListCut (IsWhole : List (List ℕ) → Type 0) (room : ℕ) (met : List (List ℕ)) : Type 0 where
  pub those : List (List ℕ)
  pub are : IsWhole those
  pub cut : met ≡ take room those

-- the strings of length r that begin with the first numbers of a string and have a greater one next
abbrev pub later_strings : ℕ → List ℕ → ℕ → List (List ℕ)
later_strings r after depth =
    flat_map (λ v. growth_from (take depth after ++ v ∷ []) (r - length (take depth after ++ v ∷ [])))
    (range_with_len (slice_index after depth + 1) (next_number (take depth after) - slice_index after depth))
