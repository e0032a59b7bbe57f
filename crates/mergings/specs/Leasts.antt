-- Masks by their least colours.
use Rattle.std.specs.Prelude.{◌≡◌, ℕ, ◌<◌, List, [], length, get_or, slice_index}
use Rattle.mergings.specs.Searches.{IsLeast}

-- the list has each mask whose set has this least colour, and no other
pub record AreThoseWithLeast (masks : List ℕ) (colour : ℕ) (those : List ℕ) : Type 0 where
  pub some : (j : ℕ) → j < length those → (i : ℕ) × (i < length masks) × (slice_index masks i ≡ slice_index those j)
  pub least : (j : ℕ) → j < length those → IsLeast (slice_index those j) colour
  pub all : (i : ℕ) → i < length masks → IsLeast (slice_index masks i) colour → (j : ℕ) × (j < length those) × (slice_index those j ≡ slice_index masks i)

-- so it is of each colour before one
pub record AreByLeastBefore (masks : List ℕ) (colour : ℕ) (goods : List (List ℕ)) : Type 0 where
  pub len : length goods ≡ colour
  pub each : (c : ℕ) → c < colour → AreThoseWithLeast masks c (get_or goods c [])
