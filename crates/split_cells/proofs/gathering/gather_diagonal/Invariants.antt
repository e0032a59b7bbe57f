use Rattle.trace_text.specs.declared.step_list.Step.TheVariants.{Diag}
use Rattle.split_cells.specs.Segments.{stands_at}
use Rattle.split_cells.specs.Pairs.{partition_of}
use Rattle.split_cells.specs.Keys.{key_at}
use Rattle.split_cells.proofs.GatherLemmas.{IsGatheredTo}
use Rattle.split_cells.proofs.gathering.gather_diagonal.Given as goal

abbrev pub invariant-loop-p : goal.invariant-loop-p
invariant-loop-p l = IsGatheredTo l.pairs.parting.class.items l.k (stands_at l.pairs.parting l.k) (key_at (partition_of l.pairs) (Diag l.k)) l.p-index l.tally.counts
