use Rattle.cohere_inputs.proofs.LawProofs.{inputs_exist, inputs_are_good}
use Rattle.cohere_inputs.proofs.laws.inputs.Goals as goal

pub returns-clause-exist : goal.returns-clause-exist
returns-clause-exist c = inputs_exist

pub returns-clause-are_good : goal.returns-clause-are_good
returns-clause-are_good c = inputs_are_good
