use Rattle.split_cells.proofs.SecondSides.{IsColumnCountedTo}
use Rattle.split_cells.proofs.triangle_counts.count_column.Given as goal

abbrev pub invariant-loop-x : goal.invariant-loop-x
invariant-loop-x l = IsColumnCountedTo l.pairs.size l.pairs.turned.items l.t l.z l.y l.fn.tally.counts l.x l.tally.counts
