use Rattle.std.proofs.Common.{◌^◌, ◌<◌, arith}
use Rattle.std.proofs.lemmas.Bool.{eqb-true, eq-eqb}
use Rattle.mergings.proofs.GoodLists.{least_here, here_least}
use Rattle.mergings.proofs.goods.is_least.Goals as goal

pub returns : goal.returns
returns c =
    let small : c.args.set < 2 ^ 32 = omega (arith, c.ranges.set.fits) in (
      λ e. least_here c.args.set c.args.colour small c.requires (eqb-true _ _ e),
      λ l. eq-eqb _ _ (here_least c.args.set c.args.colour small l),
    )
