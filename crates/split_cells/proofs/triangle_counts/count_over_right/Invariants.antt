use Rattle.split_cells.specs.Segments.{stands_at}
use Rattle.split_cells.proofs.SecondSides.{IsCountedTo}
use Rattle.split_cells.proofs.triangle_counts.count_over_right.Given as goal

abbrev pub invariant-loop-p : goal.invariant-loop-p
invariant-loop-p l = IsCountedTo l.pairs.size l.pairs.parting.class.items (stands_at l.pairs.parting l.t.right) l.t l.p-index l.tally.counts
