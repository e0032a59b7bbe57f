use Rattle.struct_consts.proofs.LawProofs.{triangles_move, triangles_are_constants, rows_are_valencies}
use Rattle.struct_consts.proofs.laws.counts_are_constant.Goals as goal

pub returns-clause-moved : goal.returns-clause-moved
returns-clause-moved c = triangles_move

pub returns-clause-triangles : goal.returns-clause-triangles
returns-clause-triangles c = triangles_are_constants

pub returns-clause-valencies : goal.returns-clause-valencies
returns-clause-valencies c = rows_are_valencies
