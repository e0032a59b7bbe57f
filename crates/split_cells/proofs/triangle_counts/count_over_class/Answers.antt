use Rattle.trace_text.specs.declared.step_list.Step.TheVariants.{Tri}
use Rattle.split_cells.specs.Pairs.{partition_of}
use Rattle.split_cells.specs.Keys.{key_at}
use Rattle.split_cells.proofs.GatherLemmas.{IsGatheredTo-more}
use Rattle.split_cells.proofs.triangle_counts.count_over_class.Goals as goal

pub loop-p-preserved : goal.loop-p-preserved
loop-p-preserved c =
    let t = c.args.t in
    IsGatheredTo-more c.members-p-items.ensures.members (key_at (partition_of c.args.pairs.now) (Tri t.class t.left t.right)) c.loop-p.p-index c.triangles_at.result c.loop-p.tally.counts c.note.new.self.counts
    c.loop-p-test.true c.triangles_at.ensures c.note.ensures c.loop-p.invariant
