use Rattle.scheme_tests.proofs.LawProofs.{answers_exist}
use Rattle.scheme_tests.proofs.laws.some_answers.Goals as goal

pub returns : goal.returns
returns c = answers_exist
