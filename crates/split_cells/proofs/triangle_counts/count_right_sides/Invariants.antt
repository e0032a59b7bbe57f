use Rattle.split_cells.specs.Segments.{stands_at}
use Rattle.split_cells.proofs.NestedSides.{IsSideCountedTo}
use Rattle.split_cells.proofs.triangle_counts.count_right_sides.Given as goal

abbrev pub invariant-loop-q : goal.invariant-loop-q
invariant-loop-q l = IsSideCountedTo l.pairs.size l.pairs.parting.class.items (stands_at l.pairs.parting l.t.right) l.t l.x l.z l.fn.tally.counts l.q-index l.tally.counts
