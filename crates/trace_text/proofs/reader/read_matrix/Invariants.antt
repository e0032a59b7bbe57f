use Rattle.trace_text.proofs.MatrixRows.{ReadsRows}
use Rattle.trace_text.proofs.reader.read_matrix.Given as goal

abbrev pub invariant-loop-x : goal.invariant-loop-x
invariant-loop-x l = ReadsRows l.size l.x l.initial.cursor.line l.initial.cursor.lines l.cursor.line l.cursor.lines l.colours
