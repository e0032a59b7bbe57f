use Rattle.trace_text.specs.declared.step_list.Step.TheVariants.{Diag}
use Rattle.split_cells.specs.Pairs.{partition_of}
use Rattle.split_cells.specs.Keys.{key_at}
use Rattle.split_cells.proofs.GatherLemmas.{IsGatheredTo-more}
use Rattle.split_cells.proofs.gathering.gather_diagonal.Goals as goal

pub loop-p-preserved : goal.loop-p-preserved
loop-p-preserved c =
    IsGatheredTo-more c.members-p-items.ensures.members (key_at (partition_of c.args.pairs.now) (Diag c.args.k)) c.loop-p.p-index c.diagonal_key.result c.loop-p.tally.counts c.note.new.self.counts c.loop-p-test.true
    c.diagonal_key.ensures c.note.ensures c.loop-p.invariant
