use Rattle.std.proofs.Common.{sym, subst}
use Rattle.good_subsets.specs.GoodSets.{AreGoodNumbers}
use Rattle.good_subsets.proofs.GoodMasks.{cut_from, front_from}
use Rattle.good_subsets.proofs.listing.good.Goals as goal

pub returns-in_err-deliver_sets-clause-front : goal.returns-in_err-deliver_sets-clause-front
returns-in_err-deliver_sets-clause-front g c =
    let K = c.args.k.now in
    front_from K c.rank-rank.result c.as_slice.result.now _ c.rank-rank.ensures.value (subst (AreGoodNumbers K) (sym c.as_slice.ensures) c.in_ok-numbers.ensures) c.in_err-deliver_sets.ensures.front

pub returns-clause-cut : goal.returns-clause-cut
returns-clause-cut g c =
    let K = c.args.k.now in
    cut_from K c.rank-rank.result c.as_slice.result.now _ c.rank-rank.ensures.value (subst (AreGoodNumbers K) (sym c.as_slice.ensures) c.in_ok-numbers.ensures) _ c.in_ok-deliver_sets.ensures.cut

pub returns-clause-front : goal.returns-clause-front
returns-clause-front g c =
    let K = c.args.k.now in
    front_from K c.rank-rank.result c.as_slice.result.now _ c.rank-rank.ensures.value (subst (AreGoodNumbers K) (sym c.as_slice.ensures) c.in_ok-numbers.ensures) c.in_ok-deliver_sets.ensures.front
