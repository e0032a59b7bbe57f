use Rattle.quotients.proofs.LawProofs.{quotient_is_coherent, quotient_exists, quotient_is_unique, same_or_disjoint, subscheme_is_coherent, subscheme_exists, subscheme_is_unique}
use Rattle.quotients.proofs.laws.l7.Goals as goal

pub returns-clause-quotient : goal.returns-clause-quotient
returns-clause-quotient c = quotient_is_coherent

pub returns-clause-quotient_exists : goal.returns-clause-quotient_exists
returns-clause-quotient_exists c = quotient_exists

pub returns-clause-quotient_unique : goal.returns-clause-quotient_unique
returns-clause-quotient_unique c = quotient_is_unique

pub returns-clause-met : goal.returns-clause-met
returns-clause-met c = same_or_disjoint

pub returns-clause-subscheme : goal.returns-clause-subscheme
returns-clause-subscheme c = subscheme_is_coherent

pub returns-clause-subscheme_exists : goal.returns-clause-subscheme_exists
returns-clause-subscheme_exists c = subscheme_exists

pub returns-clause-subscheme_unique : goal.returns-clause-subscheme_unique
returns-clause-subscheme_unique c = subscheme_is_unique
