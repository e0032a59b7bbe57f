use Rattle.drg_arrays.proofs.LawProofs.{answer_exists, answer_is_unique}
use Rattle.drg_arrays.proofs.laws.some_answer.Goals as goal

pub returns-clause-exists : goal.returns-clause-exists
returns-clause-exists c = answer_exists

pub returns-clause-unique : goal.returns-clause-unique
returns-clause-unique c = answer_is_unique
