use Rattle.trace_text.specs.declared.step_list.Step.TheVariants.{Tri}
use Rattle.split_cells.specs.Segments.{stands_at}
use Rattle.split_cells.specs.Pairs.{partition_of}
use Rattle.split_cells.specs.Keys.{key_at}
use Rattle.split_cells.proofs.GatherLemmas.{IsGatheredTo}
use Rattle.split_cells.proofs.triangle_counts.count_over_class.Given as goal

abbrev pub invariant-loop-p : goal.invariant-loop-p
invariant-loop-p l = IsGatheredTo l.pairs.parting.class.items l.t.class (stands_at l.pairs.parting l.t.class) (key_at (partition_of l.pairs) (Tri l.t.class l.t.left l.t.right)) l.p-index l.tally.counts
