use Rattle.split_cells.specs.Segments.{stands_at}
use Rattle.split_cells.proofs.Marking.{IsMarkedTo}
use Rattle.split_cells.proofs.flipping.mark_over_other.Given as goal

abbrev pub invariant-loop-q : goal.invariant-loop-q
invariant-loop-q l = IsMarkedTo l.pairs.size l.pairs.parting.class.items l.k l.other (stands_at l.pairs.parting l.other) l.q-index l.tally.counts
