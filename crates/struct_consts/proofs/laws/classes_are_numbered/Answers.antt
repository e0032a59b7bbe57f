use Rattle.struct_consts.proofs.LawProofs.{colours_are_below_rank, classes_have_pairs}
use Rattle.struct_consts.proofs.laws.classes_are_numbered.Goals as goal

pub returns-clause-colours : goal.returns-clause-colours
returns-clause-colours c = colours_are_below_rank

pub returns-clause-pairs : goal.returns-clause-pairs
returns-clause-pairs c = classes_have_pairs
