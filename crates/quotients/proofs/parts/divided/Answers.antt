use Rattle.std.proofs.Common.{◌<◌, sym, subst, ◌∙◌, arith, All}
use Rattle.std.proofs.lemmas.Result.{IfOk-weaker}
use Rattle.quotients.specs.Steps.{IsNamedPart, IsDivided}
use Rattle.quotients.proofs.Leasts.{leasts_below}
use Rattle.quotients.proofs.Wholes.{can_pick_firsts, divided_from}
use Rattle.quotients.proofs.parts.divided.Goals as goal

pub least_met-requires-clause-points : goal.least_met-requires-clause-points
least_met-requires-clause-points c = leasts_below c.args.k.now c.requires.set c.args.leasts.now c.requires.are c.requires.parted.closed

pub named_part-requires-clause-has_points : goal.named_part-requires-clause-has_points
named_part-requires-clause-has_points c =
    (can_pick_firsts c.args.k.now c.requires.set c.args.leasts.now c.deref.result.now c.requires.parted c.requires.are (c.deref.ensures.value ∙ c.in_ok-firsts.ensures)).some

pub named_part-requires-clause-limit : goal.named_part-requires-clause-limit
named_part-requires-clause-limit c =
    let pick = can_pick_firsts c.args.k.now c.requires.set c.args.leasts.now c.deref.result.now c.requires.parted c.requires.are (c.deref.ensures.value ∙ c.in_ok-firsts.ensures) in
    omega (arith, pick.few, c.requires.fits.limit)

pub named_part-requires-clause-points : goal.named_part-requires-clause-points
named_part-requires-clause-points c =
    let pick = can_pick_firsts c.args.k.now c.requires.set c.args.leasts.now c.deref.result.now c.requires.parted c.requires.are (c.deref.ensures.value ∙ c.in_ok-firsts.ensures) in
    subst (λ n. All (λ p. p < n) c.deref.result.now) (sym c.in_ok-met.ensures.size) pick.points

pub returns : goal.returns
returns c =
    IfOk-weaker c.named_part.result (IsNamedPart c.in_ok-met.met c.deref.result.now) (IsDivided c.args.k.now c.args.leasts.now)
    (λ l n. divided_from c.args.k.now c.args.leasts.now c.deref.result.now c.in_ok-met.met l c.in_ok-met.ensures (c.deref.ensures.value ∙ c.in_ok-firsts.ensures) n)
    c.named_part.ensures
