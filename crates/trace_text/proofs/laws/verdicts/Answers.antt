use Rattle.trace_text.proofs.LawProofs.{verdict_exists, accepted_has_none, first_bad_line_is_unique}
use Rattle.trace_text.proofs.laws.verdicts.Goals as goal

pub returns-clause-exists : goal.returns-clause-exists
returns-clause-exists c = verdict_exists

pub returns-clause-excludes : goal.returns-clause-excludes
returns-clause-excludes c = accepted_has_none

pub returns-clause-unique : goal.returns-clause-unique
returns-clause-unique c = first_bad_line_is_unique
