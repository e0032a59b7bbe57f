use Rattle.neighbour_answers.proofs.LawProofs.{cells_answer_exists}
use Rattle.neighbour_answers.proofs.laws.cells_answers.Goals as goal

pub returns : goal.returns
returns c = cells_answer_exists
