use Rattle.closed_subsets.proofs.Tables.{within_holds, within_from}
use Rattle.closed_subsets.proofs.products.is_within.Goals as goal

pub returns : goal.returns
returns c = (within_holds c.args.part c.args.whole, within_from c.args.part c.args.whole c.ranges.part.fits)
