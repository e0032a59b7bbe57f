use Rattle.pair_colours.proofs.LawProofs.{closure_is_raw}
use Rattle.pair_colours.proofs.laws.closure_is_raw.Goals as goal

pub returns : goal.returns
returns c = closure_is_raw
