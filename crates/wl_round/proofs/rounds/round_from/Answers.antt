use Rattle.std.proofs.Common.{IfSome, Option, subst}
use Rattle.pair_colours.specs.Colouring.{PairColouring}
use Rattle.wl_round.specs.Sweeps.{IsParting}
use Rattle.wl_round.proofs.Coming.{IsComing-more, IsComing-fewer}
use Rattle.wl_round.proofs.rounds.round_from.Goals as goal

pub loop-round-smaller : goal.loop-round-smaller
loop-round-smaller c =
    let P = c.args.colouring.now in
    let M = c.loop-round.round in
    let parting : IsParting P M c.in-Some.marks = subst (λ (o : Option PairColouring). IfSome o (IsParting P M)) c.in-Some.is c.in_ok-marks.ensures.some in
    IsComing-fewer P M c.in-Some.marks c.in_ok-round.round c.loop-round.invariant parting c.in_ok-round.ensures

pub loop-round-preserved : goal.loop-round-preserved
loop-round-preserved c =
    let P = c.args.colouring.now in
    let M = c.loop-round.round in
    let parting : IsParting P M c.in-Some.marks = subst (λ (o : Option PairColouring). IfSome o (IsParting P M)) c.in-Some.is c.in_ok-marks.ensures.some in
    IsComing-more P M c.in-Some.marks c.in_ok-round.round c.loop-round.invariant parting c.in_ok-round.ensures
