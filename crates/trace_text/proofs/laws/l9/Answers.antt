use Rattle.trace_text.proofs.LawProofs.{round_is_idle_on_coherent, round_chain_ends_coherent}
use Rattle.trace_text.proofs.laws.l9.Goals as goal

pub returns-clause-idle : goal.returns-clause-idle
returns-clause-idle c = round_is_idle_on_coherent

pub returns-clause-ends : goal.returns-clause-ends
returns-clause-ends c = round_chain_ends_coherent
