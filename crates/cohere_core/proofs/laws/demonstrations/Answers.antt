use Rattle.cohere_core.proofs.DemoOutputs.{demo_exists, demo_is_unique}
use Rattle.cohere_core.proofs.laws.demonstrations.Goals as goal

pub returns-clause-exist : goal.returns-clause-exist
returns-clause-exist c = demo_exists

pub returns-clause-unique : goal.returns-clause-unique
returns-clause-unique c = demo_is_unique
