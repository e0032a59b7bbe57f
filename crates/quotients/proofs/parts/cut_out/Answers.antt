use Rattle.std.proofs.Common.{◌∙◌, arith}
use Rattle.std.proofs.lemmas.Result.{IfOk-weaker}
use Rattle.quotients.specs.Steps.{IsNamedPart, IsCutOut}
use Rattle.quotients.proofs.Wholes.{can_pick_members, cut_out_from}
use Rattle.quotients.proofs.parts.cut_out.Goals as goal

pub points_with-requires : goal.points_with-requires
points_with-requires c = omega (arith, c.requires.classes.are.len, c.requires.classes.fits.limit)

pub named_part-requires-clause-has_points : goal.named_part-requires-clause-has_points
named_part-requires-clause-has_points c =
    let has = c.requires.classes in
    (can_pick_members c.args.k.now has.set c.args.leasts.now c.deref.result.now c.args.x has.parted has.are c.requires.point (c.deref.ensures.value ∙ c.in_ok-members.ensures)).some

pub named_part-requires-clause-limit : goal.named_part-requires-clause-limit
named_part-requires-clause-limit c =
    let has = c.requires.classes in
    let pick = can_pick_members c.args.k.now has.set c.args.leasts.now c.deref.result.now c.args.x has.parted has.are c.requires.point (c.deref.ensures.value ∙ c.in_ok-members.ensures) in
    omega (arith, pick.few, has.fits.limit)

pub named_part-requires-clause-points : goal.named_part-requires-clause-points
named_part-requires-clause-points c =
    let has = c.requires.classes in
    (can_pick_members c.args.k.now has.set c.args.leasts.now c.deref.result.now c.args.x has.parted has.are c.requires.point (c.deref.ensures.value ∙ c.in_ok-members.ensures)).points

pub returns : goal.returns
returns c =
    IfOk-weaker c.named_part.result (IsNamedPart c.args.k.now c.deref.result.now) (IsCutOut c.args.k.now c.args.leasts.now c.args.x)
    (λ l n. cut_out_from c.args.k.now c.args.leasts.now c.deref.result.now c.args.x l c.requires.point (c.deref.ensures.value ∙ c.in_ok-members.ensures) n)
    c.named_part.ensures
