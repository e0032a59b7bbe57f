use Rattle.struct_consts.proofs.LawProofs.{constants_sum_to_size, size_is_fibre_times_valency}
use Rattle.struct_consts.proofs.laws.constants_add_up.Goals as goal

pub returns-clause-numbers : goal.returns-clause-numbers
returns-clause-numbers c = constants_sum_to_size

pub returns-clause-sizes : goal.returns-clause-sizes
returns-clause-sizes c = size_is_fibre_times_valency
