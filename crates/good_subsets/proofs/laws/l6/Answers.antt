use Rattle.good_subsets.proofs.ByClosure.{good_by_closure}
use Rattle.good_subsets.proofs.laws.l6.Goals as goal

pub returns : goal.returns
returns c = good_by_closure
