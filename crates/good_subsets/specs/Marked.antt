-- The colours in a set, marked in a string.
use Rattle.std.specs.Prelude.{◌≡◌, ℕ, ◌<◌, List, slice_index}
use Rattle.pair_colours.specs.ColourSets.{is_in}

-- the string has one number at two colours exactly where both are in the set or neither is
pub record IsMarked (n : ℕ) (set string : List ℕ) : Type 0 where
  pub together : (i j : ℕ) → i < n → j < n → is_in set i ≡ is_in set j → slice_index string i ≡ slice_index string j
  pub apart : (i j : ℕ) → i < n → j < n → slice_index string i ≡ slice_index string j → is_in set i ≡ is_in set j
