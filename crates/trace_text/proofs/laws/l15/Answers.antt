use Rattle.trace_text.proofs.LawProofs.{steps_exist}
use Rattle.trace_text.proofs.laws.l15.Goals as goal

pub returns : goal.returns
returns c = steps_exist
