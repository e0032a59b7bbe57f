use Rattle.pair_colours.proofs.Exists.{alike_is_tested}
use Rattle.pair_colours.proofs.laws.alike_pairs.Goals as goal

pub returns : goal.returns
returns c = alike_is_tested
