-- Classes with numbers from 0 on.
use Rattle.std.specs.Prelude.{ℕ, ◌<◌, List, length, slice_index}
use Rattle.split_cells.specs.Grids.{IsUsed}

-- the classes have the numbers from 0 on, and each number is in use
pub record IsNumbered (class : List ℕ) : Type 0 where
  pub rank : ℕ
  pub some : 0 < rank
  pub below : (p : ℕ) → p < length class → slice_index class p < rank
  pub used : IsUsed class rank
