-- The code's edits, undos and redos.
use Rattle.recolour_bench.specs.Edits.{edit_of}
use Rattle.recolour_bench.specs.Steps as steps
use Rattle.cohere_core.specs.declared.answers.Move.{Move}
use Rattle.cohere_core.specs.declared.answers.Move.TheVariants as moves

abbrev pub asked_move : Move → steps.Move
asked_move (moves.Edits edit) = steps.edits (edit_of edit)
asked_move moves.Undoes = steps.undoes
asked_move moves.Redoes = steps.redoes
