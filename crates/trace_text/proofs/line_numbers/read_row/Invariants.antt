use Rattle.trace_text.proofs.RowWords.{ReadsRow}
use Rattle.trace_text.proofs.line_numbers.read_row.Given as goal
use Rattle.text_lines.specs.LineNumbers.{words_left}

abbrev pub invariant-loop-y : goal.invariant-loop-y
invariant-loop-y l = ReadsRow l.line l.initial.colouring l.colouring l.x l.y (words_left l.rest)
