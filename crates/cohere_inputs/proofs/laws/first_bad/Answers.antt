use Rattle.cohere_inputs.proofs.LawProofs.{none_or_first_bad, none_is_first, first_bad_is_unique}
use Rattle.cohere_inputs.proofs.laws.first_bad.Goals as goal

pub returns-clause-none_or_first : goal.returns-clause-none_or_first
returns-clause-none_or_first c = none_or_first_bad

pub returns-clause-not_both : goal.returns-clause-not_both
returns-clause-not_both c = none_is_first

pub returns-clause-unique : goal.returns-clause-unique
returns-clause-unique c = first_bad_is_unique
