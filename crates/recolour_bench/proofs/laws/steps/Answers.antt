use Rattle.recolour_bench.proofs.LawProofs.{step_exists, step_keeps, step_is_unique}
use Rattle.recolour_bench.proofs.laws.steps.Goals as goal

pub returns-clause-exists : goal.returns-clause-exists
returns-clause-exists c = step_exists

pub returns-clause-keeps : goal.returns-clause-keeps
returns-clause-keeps c = step_keeps

pub returns-clause-unique : goal.returns-clause-unique
returns-clause-unique c = step_is_unique
