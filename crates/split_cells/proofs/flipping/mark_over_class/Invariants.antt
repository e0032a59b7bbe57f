use Rattle.split_cells.specs.Segments.{stands_at}
use Rattle.split_cells.specs.Marks.{mark_at}
use Rattle.split_cells.proofs.GatherLemmas.{IsGatheredTo}
use Rattle.split_cells.proofs.flipping.mark_over_class.Given as goal

abbrev pub invariant-loop-p : goal.invariant-loop-p
invariant-loop-p l = IsGatheredTo l.pairs.parting.class.items l.k (stands_at l.pairs.parting l.k) (mark_at l.pairs l.other) l.p-index l.tally.counts
