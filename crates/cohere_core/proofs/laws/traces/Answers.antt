use Rattle.cohere_core.proofs.ShownTraces.{trace_shows_closure, trace_is_checked}
use Rattle.cohere_core.proofs.laws.traces.Goals as goal

pub returns-clause-shows : goal.returns-clause-shows
returns-clause-shows c = trace_shows_closure

pub returns-clause-checked : goal.returns-clause-checked
returns-clause-checked c = trace_is_checked
