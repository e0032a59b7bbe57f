use Rattle.trace_text.proofs.LawProofs.{parts_one_class, parts_two_keys}
use Rattle.trace_text.proofs.laws.parts.Goals as goal

pub returns-clause-one_class : goal.returns-clause-one_class
returns-clause-one_class c = parts_one_class

pub returns-clause-two_keys : goal.returns-clause-two_keys
returns-clause-two_keys c = parts_two_keys
