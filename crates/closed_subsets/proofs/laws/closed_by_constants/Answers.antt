use Rattle.closed_subsets.proofs.Closing.{closed_by_constants}
use Rattle.closed_subsets.proofs.laws.closed_by_constants.Goals as goal

pub returns : goal.returns
returns c = closed_by_constants
