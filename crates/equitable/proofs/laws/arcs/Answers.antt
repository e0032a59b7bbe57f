use Rattle.equitable.proofs.LawProofs.{arcs_of_sets_are_arcs, arcs_of_sets_are_theirs, arc_set_or_not}
use Rattle.equitable.proofs.laws.arcs.Goals as goal

pub returns-clause-bits : goal.returns-clause-bits
returns-clause-bits c = arcs_of_sets_are_arcs

pub returns-clause-theirs : goal.returns-clause-theirs
returns-clause-theirs c = arcs_of_sets_are_theirs

pub returns-clause-or_not : goal.returns-clause-or_not
returns-clause-or_not c = arc_set_or_not
