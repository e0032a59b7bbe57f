use Rattle.std.proofs.Common.{sym, ◌∙◌, arith}
use Rattle.visitors.proofs.Packings.{number_before, number_stored}
use Rattle.visitors.proofs.pieces.number_at.Goals as goal

pub loop-at-preserved : goal.loop-at-preserved
loop-at-preserved c =
    let r = number_before c.args.tails.now c.args.pieces.now c.requires.pieces c.loop-at.at c.args.place (omega (arith, c.loop-at.invariant.back, c.requires.entry)) c.loop-at-test.true in
    record {
      back = omega (arith, c.loop-at.invariant.back);
      place = r.2;
      same = r.1 ∙ c.loop-at.invariant.same;
    }

pub returns : goal.returns
returns c =
    sym (number_stored c.args.tails.now c.args.pieces.now c.requires.pieces c.loop-at.at c.args.place (omega (arith, c.loop-at.invariant.back, c.requires.entry)) (omega (arith, c.loop-at-test.false)) c.loop-at.invariant.place)
    ∙ c.loop-at.invariant.same
