-- The structure constants as a table of rows, and products of sets that they tell of.
use Rattle.std.specs.Prelude.{◌≡◌, ℕ, ◌+◌, ◌*◌, ◌<◌, List, length, slice_index, Contains}
use Rattle.pair_colours.specs.Colouring.{PairColouring}
use Rattle.pair_colours.specs.Naming.{rank_of}
use Rattle.pair_colours.specs.IntersectionNumber.{intersection_number}
use Rattle.colour_wl.specs.BlockSums.{product_at}

-- the row of i and j begins at place (i * 16 + j) * 16 and has p(i, j; k) at its place k
pub record IsTable (K : PairColouring) (values : List ℕ) : Type 0 where
  pub len : length values ≡ 4096
  pub each : (i j k : ℕ) → i < rank_of K → j < rank_of K → k < rank_of K → slice_index values ((i * 16 + j) * 16 + k) ≡ intersection_number K i j k

-- the product of two sets has one coefficient at all colours of a third
pub record IsConstantOn (K : PairColouring) (left right set : List ℕ) : Type 0 where
  pub constant : (k l : ℕ) → Contains set k → Contains set l → product_at K left right k ≡ product_at K left right l
