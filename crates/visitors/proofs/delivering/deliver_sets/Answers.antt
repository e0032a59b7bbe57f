use Rattle.std.proofs.Common.{◌≡◌, ◌+◌, map, arith, sym, ◌∙◌}
use Rattle.visitors.specs.Masks.{members_of}
use Rattle.visitors.specs.declared.visitor.Next.TheVariants.{More, Stop}
use Rattle.visitors.proofs.Deliveries.{met_more, met_front, met_full, met_space}
use Rattle.visitors.proofs.delivering.deliver_sets.Goals as goal

pub returns-in-Stop-clause-cut : goal.returns-in-Stop-clause-cut
returns-in-Stop-clause-cut g c =
    let f = members_of c.args.rank in
    let masks = c.args.masks.now in
    let k = c.loop-mask.mask-index in
    met_full (map f masks) _ (k + 1) _ _
    (met_more f masks k _ _ _ (omega (arith, c.loop-mask-test.true)) c.loop-mask.invariant.met (c.deref.ensures.value ∙ c.in_ok-list_members.ensures) c.in_ok-meet.ensures.0)
    (c.in_ok-meet.ensures.1.1.1.0 c.in-Stop.is)
    (c.in_ok-meet.ensures.1.1.0 ∙ c.loop-mask.invariant.room)

pub returns-in-Stop-clause-front : goal.returns-in-Stop-clause-front
returns-in-Stop-clause-front g c =
    let f = members_of c.args.rank in
    let masks = c.args.masks.now in
    let k = c.loop-mask.mask-index in
    met_front (map f masks) _ (k + 1)
    (met_more f masks k _ _ _ (omega (arith, c.loop-mask-test.true)) c.loop-mask.invariant.met (c.deref.ensures.value ∙ c.in_ok-list_members.ensures) c.in_ok-meet.ensures.0)

pub loop-mask-preserved : goal.loop-mask-preserved
loop-mask-preserved g c = record {
  met = met_more (members_of c.args.rank) c.args.masks.now c.loop-mask.mask-index _ _ _ (omega (arith, c.loop-mask-test.true)) c.loop-mask.invariant.met (c.deref.ensures.value ∙ c.in_ok-list_members.ensures) c.in_ok-meet.ensures.0;
  space = met_space _ _ _ _ _ c.loop-mask.invariant.space c.in_ok-meet.ensures.0 c.in_ok-meet.ensures.1.1.0 (λ full. let z : More ≡ Stop = sym c.in-More.is ∙ c.in_ok-meet.ensures.1.1.1.1 full in cc);
  room = c.in_ok-meet.ensures.1.1.0 ∙ c.loop-mask.invariant.room;
}
