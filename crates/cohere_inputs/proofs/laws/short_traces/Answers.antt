use Rattle.cohere_inputs.proofs.LawProofs.{trace_has_few_lines}
use Rattle.cohere_inputs.proofs.laws.short_traces.Goals as goal

pub returns : goal.returns
returns c = trace_has_few_lines
