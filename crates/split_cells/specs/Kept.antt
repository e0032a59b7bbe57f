-- What `Cells` keeps.
use Rattle.std.specs.Prelude.{◌*◌}
use Rattle.pair_colours.specs.Colouring.{PairColouring}
use Rattle.split_cells.specs.declared.classed_pairs.ClassedPairs.{ClassedPairs}
use Rattle.split_cells.specs.declared.labels.Labels.{Labels}
use Rattle.split_cells.specs.Counts.{Counts}
use Rattle.split_cells.specs.Keys.{IsBlank}
use Rattle.split_cells.specs.Grids.{IsUsed}
use Rattle.split_cells.specs.Pairs.{IsClassed, partition_of}
use Rattle.split_cells.specs.Labels.{AreLabels, shown_by}

-- the pairs in classes that all have members and a number to be shown by
pub record IsShown (pairs : ClassedPairs) (labels : Labels) : Type 0 where
  pub classed : IsClassed pairs
  pub used : IsUsed pairs.parting.class.items pairs.parting.rank
  pub numbers : AreLabels (pairs.size * pairs.size) pairs.parting.rank labels.outer.items labels.inner.items

-- the partition as it is shown
abbrev pub shown_of : ClassedPairs → Labels → PairColouring
shown_of pairs labels = shown_by labels.outer.items (partition_of pairs)

-- and counts that are all 0
pub record IsKept (pairs : ClassedPairs) (labels : Labels) (t : Counts) : Type 0 where
  pub shown : IsShown pairs labels
  pub blank : IsBlank pairs.parting.class.items t.counts
