use Rattle.trace_text.proofs.LawProofs.{accepted_fits_trace, accepted_text_fits}
use Rattle.trace_text.proofs.laws.l16.Goals as goal

pub returns-clause-numbers : goal.returns-clause-numbers
returns-clause-numbers c = accepted_fits_trace

pub returns-clause-bytes : goal.returns-clause-bytes
returns-clause-bytes c = accepted_text_fits
