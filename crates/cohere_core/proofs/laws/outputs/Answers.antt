use Rattle.cohere_core.proofs.Runs.{output_exists, run_exists}
use Rattle.cohere_core.proofs.OneOutput.{outputs_agree, runs_agree, output_is_unique, run_is_unique}
use Rattle.cohere_core.proofs.laws.outputs.Goals as goal

pub returns-clause-exist : goal.returns-clause-exist
returns-clause-exist c = output_exists

pub returns-clause-from_everywhere : goal.returns-clause-from_everywhere
returns-clause-from_everywhere c = run_exists

pub returns-clause-unique : goal.returns-clause-unique
returns-clause-unique c = output_is_unique

pub returns-clause-agree : goal.returns-clause-agree
returns-clause-agree c = outputs_agree

pub returns-clause-alike : goal.returns-clause-alike
returns-clause-alike c = runs_agree

pub returns-clause-alike_unique : goal.returns-clause-alike_unique
returns-clause-alike_unique c = run_is_unique
