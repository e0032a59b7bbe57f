-- The pairs of points in numbered classes.
use Rattle.std.specs.Prelude.{◌≡◌, ℕ, ◌+◌, ◌*◌, ◌/◌, ◌≤◌}
use Rattle.pair_colours.specs.declared.coloured_pairs.TheConstants.{MOST_POINTS}
use Rattle.pair_colours.specs.Colouring.{PairColouring}
use Rattle.split_cells.specs.declared.classed_pairs.ClassedPairs.{ClassedPairs}
use Rattle.split_cells.specs.Segments.{IsParting, bound_of, class_at, first_of}
use Rattle.split_cells.specs.Grids.{IsTurned, grid}

-- each pair is in a class, and so is each transposed pair
pub record IsClassed (pairs : ClassedPairs) : Type 0 where
  pub some : 1 ≤ pairs.size
  pub limit : pairs.size ≤ MOST_POINTS
  pub parting : IsParting pairs.parting
  pub bound : bound_of pairs.parting ≡ pairs.size * pairs.size
  pub turned : IsTurned pairs.size pairs.parting.class.items pairs.turned.items

-- the partition
abbrev pub partition_of : ClassedPairs → PairColouring
partition_of pairs = grid pairs.size pairs.parting.class.items

-- the class of the pair (x, x), which tells the fibre of x
abbrev pub fibre_of : ClassedPairs → ℕ → ℕ
fibre_of pairs x = class_at pairs.parting (x * pairs.size + x)

-- the point of the first pair of a class
abbrev pub lead_of : ClassedPairs → ℕ → ℕ
lead_of pairs k = first_of pairs.parting k / pairs.size
