use Rattle.neighbour_answers.proofs.LatticeProofs.{lattice_answers_are_unique, common_answers_are_unique}
use Rattle.neighbour_answers.proofs.lattice_laws.lattice_answers.Goals as goal

pub returns-clause-covers : goal.returns-clause-covers
returns-clause-covers c = lattice_answers_are_unique

pub returns-clause-common : goal.returns-clause-common
returns-clause-common c = common_answers_are_unique
