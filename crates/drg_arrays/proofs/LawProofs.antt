-- The proofs of the laws, under the names by which crates above cite them.
use Rattle.drg_arrays.specs.Graph.{graph_of}
use Rattle.drg_arrays.specs.Law.{AnswerExists, AnswerIsUnique, DistancesExist}
use Rattle.drg_arrays.proofs.OneAnswer.{IsGraphAnswer-same}
use Rattle.drg_arrays.proofs.SomeAnswer as some
use Rattle.drg_arrays.proofs.SomeDistances as distances

pub answer_exists : AnswerExists
answer_exists = some.answer_exists

pub answer_is_unique : AnswerIsUnique
answer_is_unique C S answer h other k = IsGraphAnswer-same (graph_of C S) other answer k h

pub distances_exist : DistancesExist
distances_exist = distances.some_table
