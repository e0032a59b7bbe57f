use Rattle.recolour_bench.proofs.LawProofs.{not_both, refusal_is_unique, refusal_is_alike}
use Rattle.recolour_bench.proofs.laws.refusals.Goals as goal

pub returns-clause-not_both : goal.returns-clause-not_both
returns-clause-not_both c = not_both

pub returns-clause-unique : goal.returns-clause-unique
returns-clause-unique c = refusal_is_unique

pub returns-clause-alike : goal.returns-clause-alike
returns-clause-alike c = refusal_is_alike
