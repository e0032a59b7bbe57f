use Rattle.std.proofs.Common.{refl, sym, subst, arith}
use Rattle.mergings.proofs.ListParts.{IsMidway, midway_start, midway_front, midway_all}
use Rattle.mergings.proofs.pieces.deliver_rest.Goals as goal

pub loop-last-init : goal.loop-last-init
loop-last-init g c = record {
  midway = midway_start c.args.k.now c.args.first.items _ c.requires.first;
  space = c.requires.space;
  room = refl;
  size = omega arith;
  most = omega arith;
}

pub returns-in_err-deliver_piece-clause-front : goal.returns-in_err-deliver_piece-clause-front
returns-in_err-deliver_piece-clause-front g c =
    midway_front c.args.k.now c.args.first.items _ _ _ c.as_slice.result.now (subst (IsMidway c.args.k.now c.args.first.items _ _) (sym c.as_slice.ensures.value) c.loop-last.invariant.midway) c.in_err-deliver_piece.ensures.front

pub returns-in-None-clause-front : goal.returns-in-None-clause-front
returns-in-None-clause-front g c =
    midway_front c.args.k.now c.args.first.items _ _ _ c.as_slice.result.now (subst (IsMidway c.args.k.now c.args.first.items _ _) (sym c.as_slice.ensures.value) c.loop-last.invariant.midway) c.in_ok-deliver_piece.ensures.front

pub returns-in-None-clause-all : goal.returns-in-None-clause-all
returns-in-None-clause-all g c =
    midway_all c.args.k.now c.args.first.items _ _ _ c.as_slice.result.now (subst (IsMidway c.args.k.now c.args.first.items _ _) (sym c.as_slice.ensures.value) c.loop-last.invariant.midway) _ _ c.loop-last.invariant.room (c.in_ok-deliver_piece.ensures.end c.in-None.is)
