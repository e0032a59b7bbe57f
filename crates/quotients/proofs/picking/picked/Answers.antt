use Rattle.std.proofs.Common.{length, refl, ◌∙◌, arith}
use Rattle.quotients.proofs.Filling.{filled_more, picked_whole}
use Rattle.quotients.proofs.picking.picked.Goals as goal

pub loop-t-preserved : goal.loop-t-preserved
loop-t-preserved c = record {
  size = c.loop-t.invariant.size;
  filled = filled_more (length c.args.points.now) _ c.loop-t.part _ c.loop-s.s c.loop-t.t _ c.loop-t.invariant.filled c.loop-t-test.true (omega arith) c.set.ensures.points (c.set.ensures.pair ∙ c.get.ensures) c.set.ensures.others;
}

pub returns : goal.returns
returns c =
    picked_whole c.args.k.now c.args.points.now (length c.args.points.now) c.loop-s.s c.loop-s.part c.size-kept.ensures.within.colouring refl (omega arith) c.loop-s.invariant.filled
