use Rattle.good_subsets.proofs.ByClosure.{prefixes_are_good}
use Rattle.good_subsets.proofs.laws.l17.Goals as goal

pub returns : goal.returns
returns c = prefixes_are_good
