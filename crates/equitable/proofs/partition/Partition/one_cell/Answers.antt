use Rattle.std.proofs.Common.{subst, sym}
use Rattle.equitable.specs.Cells.{FitsCells}
use Rattle.equitable.proofs.PartitionLoops.{fits_one_cell}
use Rattle.equitable.proofs.partition.Partition.one_cell.Goals as goal

pub invariant_of-result : goal.invariant_of-result
invariant_of-result c = subst (λ W. FitsCells W 1) (sym (c.in_ok-cells.ensures.items_if_clones_equal (λ y e. e)))
    (fits_one_cell c.args.size c.requires.some c.requires.few)
