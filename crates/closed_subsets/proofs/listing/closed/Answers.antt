use Rattle.std.proofs.Common.{sym, subst}
use Rattle.closed_subsets.specs.Products.{AreClosedMasks}
use Rattle.closed_subsets.proofs.Masked.{cut_from, front_from}
use Rattle.closed_subsets.proofs.listing.closed.Goals as goal

pub returns-in_err-deliver_sets-clause-front : goal.returns-in_err-deliver_sets-clause-front
returns-in_err-deliver_sets-clause-front g c =
    let K = c.args.k.now in
    front_from K c.rank-rank.result c.deref.result.now _ c.rank-rank.ensures.value (subst (AreClosedMasks K) (sym c.deref.ensures.value) c.in_ok-masks.ensures) c.in_err-deliver_sets.ensures.front

pub returns-clause-cut : goal.returns-clause-cut
returns-clause-cut g c =
    let K = c.args.k.now in
    cut_from K c.rank-rank.result c.deref.result.now _ c.rank-rank.ensures.value (subst (AreClosedMasks K) (sym c.deref.ensures.value) c.in_ok-masks.ensures) _ c.in_ok-deliver_sets.ensures.cut

pub returns-clause-front : goal.returns-clause-front
returns-clause-front g c =
    let K = c.args.k.now in
    front_from K c.rank-rank.result c.deref.result.now _ c.rank-rank.ensures.value (subst (AreClosedMasks K) (sym c.deref.ensures.value) c.in_ok-masks.ensures) c.in_ok-deliver_sets.ensures.front
