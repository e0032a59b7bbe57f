use Rattle.neighbour_answers.proofs.LawProofs.{ring_answer_exists, ring_answer_is_unique}
use Rattle.neighbour_answers.proofs.laws.ring_answers.Goals as goal

pub returns-clause-exists : goal.returns-clause-exists
returns-clause-exists c = ring_answer_exists

pub returns-clause-unique : goal.returns-clause-unique
returns-clause-unique c = ring_answer_is_unique
