use Rattle.split_cells.specs.Segments.{stands_at}
use Rattle.split_cells.proofs.FirstSides.{IsCountedTo}
use Rattle.split_cells.proofs.triangle_counts.count_over_left.Given as goal

abbrev pub invariant-loop-p : goal.invariant-loop-p
invariant-loop-p l = IsCountedTo l.pairs.size l.pairs.parting.class.items (stands_at l.pairs.parting l.t.left) l.t l.p-index l.tally.counts
