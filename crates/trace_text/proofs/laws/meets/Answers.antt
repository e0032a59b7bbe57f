use Rattle.trace_text.proofs.LawProofs.{meet_is_named_meet}
use Rattle.trace_text.proofs.laws.meets.Goals as goal

pub returns : goal.returns
returns c = meet_is_named_meet
