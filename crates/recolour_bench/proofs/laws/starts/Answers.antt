use Rattle.recolour_bench.proofs.LawProofs.{start_exists, start_is_history, start_is_unique}
use Rattle.recolour_bench.proofs.laws.starts.Goals as goal

pub returns-clause-exists : goal.returns-clause-exists
returns-clause-exists c = start_exists

pub returns-clause-keeps : goal.returns-clause-keeps
returns-clause-keeps c = start_is_history

pub returns-clause-unique : goal.returns-clause-unique
returns-clause-unique c = start_is_unique
