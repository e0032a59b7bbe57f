use Rattle.cohere_core.proofs.TaskOutputs.{task_has_output}
use Rattle.cohere_core.proofs.laws.tasks.Goals as goal

pub returns : goal.returns
returns c = task_has_output
