use Rattle.pair_colours.proofs.LawProofs.{subsets_are_all}
use Rattle.pair_colours.proofs.laws.subsets.Goals as goal

pub returns : goal.returns
returns c = subsets_are_all
