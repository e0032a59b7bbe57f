use Rattle.triangle_count.proofs.CacheLemmas.{AreMarked-more}
use Rattle.triangle_count.proofs.cache.marks_of.Goals as goal

pub loop-pair-preserved : goal.loop-pair-preserved
loop-pair-preserved c =
    let a = c.mark.ensures in
    let b = c.mark-in-loop-pair.ensures in
    AreMarked-more c.args.size c.args.changed.now c.loop-pair.pair-index (0, 0) c.loop-pair.lefts.items c.loop-pair.rights.items c.mark.new.marks.items c.mark-in-loop-pair.new.marks.items
    c.loop-pair-test.true c.loop-pair.invariant
    (record { points = a.points; marked = a.marked; others = a.others })
    (record { points = b.points; marked = b.marked; others = b.others })
