use Rattle.split_cells.proofs.FirstSides.{IsRowCountedTo}
use Rattle.split_cells.proofs.triangle_counts.count_row.Given as goal

abbrev pub invariant-loop-y : goal.invariant-loop-y
invariant-loop-y l = IsRowCountedTo l.pairs.size l.pairs.parting.class.items l.t l.x l.z l.fn.tally.counts l.y l.tally.counts
