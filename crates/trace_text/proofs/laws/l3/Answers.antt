use Rattle.trace_text.proofs.LawProofs.{accepted_is_closure}
use Rattle.trace_text.proofs.laws.l3.Goals as goal

pub returns : goal.returns
returns c = accepted_is_closure
