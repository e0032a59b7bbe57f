use Rattle.std.proofs.Common.{◌≡◌, ◌==◌, ◌*◌, ◌<◌, if◌then◌else◌, get_or, ap, ◌∙◌, arith}
use Rattle.std.proofs.lemmas.List.{get_or_read}
use Rattle.split_cells.specs.Marks.{mark_at}
use Rattle.split_cells.proofs.GatherLemmas.{IsGatheredTo-more}
use Rattle.split_cells.proofs.flipping.mark_over_class.Goals as goal

pub loop-p-preserved : goal.loop-p-preserved
loop-p-preserved c =
    let pairs = c.args.pairs.now in
    let n = pairs.size in
    let h = c.requires.classed in
    let m = c.members-p-items.ensures.members in
    let a = c.loop-p.p-index in
    let p = get_or c.members-p-items.result.now a 0 in
    let inside : p < n * n = omega (arith, m.inside a c.loop-p-test.true, h.parting.classes, h.bound) in
    let read = get_or_read pairs.turned.items p c.index.result.now (omega (arith, inside, h.turned.len)) c.index.ensures 0 in
    let val : c.mark.result ≡ mark_at pairs c.args.other p = c.mark.ensures ∙ ap (λ z. if z == c.args.other then 1 else 0) read in
    IsGatheredTo-more m (mark_at pairs c.args.other) a c.mark.result c.loop-p.tally.counts c.note.new.self.counts c.loop-p-test.true val c.note.ensures c.loop-p.invariant
