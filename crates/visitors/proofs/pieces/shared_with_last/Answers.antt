use Rattle.std.proofs.Common.{◌-◌, sym, ◌∙◌, arith, length}
use Rattle.std.proofs.lemmas.List.{take_more_same}
use Rattle.visitors.specs.Packing.{unpacked}
use Rattle.visitors.proofs.Packings.{length-unpacked}
use Rattle.visitors.proofs.pieces.shared_with_last.Goals as goal

pub loop-place-preserved : goal.loop-place-preserved
loop-place-preserved c =
    let last = length c.args.pieces.now - 1 in
    take_more_same (unpacked c.args.tails.now c.args.pieces.now last) c.args.entry.now c.loop-place.place 0
    (omega (arith, length-unpacked c.args.tails.now c.args.pieces.now c.requires.pieces last (omega (arith, c.if-pieces-eq0.false)), c.loop-place-test.true, c.min-most.ensures))
    (omega (arith, c.loop-place-test.true, c.min-most.ensures))
    c.loop-place.invariant
    (sym c.number_at.ensures ∙ c.if-number_at-entry.false)
