use Rattle.pair_colours.proofs.LawProofs.{closed_sets_exist, closed_sets_are_unique}
use Rattle.pair_colours.proofs.laws.closed_sets.Goals as goal

pub returns-clause-exist : goal.returns-clause-exist
returns-clause-exist c = closed_sets_exist

pub returns-clause-unique : goal.returns-clause-unique
returns-clause-unique c = closed_sets_are_unique
