use Rattle.std.proofs.Common.{◌==◌, if◌then◌else◌, ap, ◌∙◌, arith}
use Rattle.std.proofs.lemmas.List.{get_or_read}
use Rattle.split_cells.proofs.Marking.{IsMarkedTo-start, IsMarkedTo-fresh, IsMarkedTo-more, IsGathered-marked}
use Rattle.split_cells.proofs.flipping.mark_over_other.Goals as goal

pub loop-q-init : goal.loop-q-init
loop-q-init c = IsMarkedTo-start c.args.pairs.now c.requires.classed c.args.k c.args.other c.members-q-items.ensures.members c.args.tally.now.counts c.requires.blank

pub note-requires-clause-inside : goal.note-requires-clause-inside
note-requires-clause-inside c =
    (IsMarkedTo-fresh c.args.pairs.now c.requires.classed c.args.k c.args.other c.members-q-items.ensures.members c.loop-q.q-index c.loop-q-test.true c.loop-q.tally.counts c.loop-q.invariant c.turned-p.result c.turned-p.ensures).0

pub note-requires-clause-fresh : goal.note-requires-clause-fresh
note-requires-clause-fresh c =
    (IsMarkedTo-fresh c.args.pairs.now c.requires.classed c.args.k c.args.other c.members-q-items.ensures.members c.loop-q.q-index c.loop-q-test.true c.loop-q.tally.counts c.loop-q.invariant c.turned-p.result c.turned-p.ensures).1

pub loop-q-preserved : goal.loop-q-preserved
loop-q-preserved c =
    let pairs = c.args.pairs.now in
    let h = c.requires.classed in
    let m = c.members-q-items.ensures.members in
    let p = c.turned-p.result in
    let fresh = IsMarkedTo-fresh pairs h c.args.k c.args.other m c.loop-q.q-index c.loop-q-test.true c.loop-q.tally.counts c.loop-q.invariant p c.turned-p.ensures in
    let read = get_or_read pairs.parting.class.items p c.index.result.now (omega (arith, fresh.0, c.loop-q.invariant.len, h.parting.classes, h.bound)) c.index.ensures 0 in
    IsMarkedTo-more pairs h c.args.k c.args.other m c.loop-q.q-index c.loop-q-test.true c.loop-q.tally.counts c.loop-q.invariant p c.mark.result c.note.new.self.counts c.turned-p.ensures
    (c.mark.ensures ∙ ap (λ z. if z == c.args.k then 1 else 0) read) c.note.ensures

pub returns : goal.returns
returns c = IsGathered-marked c.args.pairs.now c.requires.classed c.args.k c.args.other c.members-q-items.ensures.members c.loop-q.q-index c.loop-q.tally.counts (omega (arith, c.loop-q-test.false)) c.loop-q.invariant
