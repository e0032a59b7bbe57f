use Rattle.relation_text.proofs.RowLoops.{ReadsRow}
use Rattle.text_lines.specs.Views.{part_of}
use Rattle.relation_text.proofs.matrix_rows.read_row.Given as goal

abbrev pub invariant-loop-y : goal.invariant-loop-y
invariant-loop-y l = ReadsRow (part_of l.fn.row) l.fn.colouring l.colouring l.x l.y l.left
