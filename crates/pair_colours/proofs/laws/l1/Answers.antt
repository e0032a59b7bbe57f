use Rattle.pair_colours.proofs.LawProofs.{closure_exists, closure_is_unique, named_closure_exists, named_closure_is_unique}
use Rattle.pair_colours.proofs.laws.l1.Goals as goal

pub returns-clause-exists : goal.returns-clause-exists
returns-clause-exists c = closure_exists

pub returns-clause-unique : goal.returns-clause-unique
returns-clause-unique c = closure_is_unique

pub returns-clause-named_exists : goal.returns-clause-named_exists
returns-clause-named_exists c = named_closure_exists

pub returns-clause-named_unique : goal.returns-clause-named_unique
returns-clause-named_unique c = named_closure_is_unique
