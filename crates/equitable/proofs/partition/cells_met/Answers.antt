use Rattle.equitable.proofs.PartitionLoops.{cell_met}
use Rattle.equitable.proofs.partition.cells_met.Goals as goal

pub loop-cell-preserved : goal.loop-cell-preserved
loop-cell-preserved c =
    cell_met c.args.cells.now c.loop-cell.cell-index _ c.loop-cell.met.keys c.insert.new.self.keys c.loop-cell-test.true c.loop-cell.invariant
    c.in_ok-insert.ensures.keys
