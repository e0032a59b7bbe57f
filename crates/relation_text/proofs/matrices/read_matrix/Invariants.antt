use Rattle.relation_text.proofs.MatrixLoops.{ReadsRows}
use Rattle.relation_text.proofs.matrices.read_matrix.Given as goal

abbrev pub invariant-loop-x : goal.invariant-loop-x
invariant-loop-x l = ReadsRows l.len l.size l.fn.left l.colouring l.x l.left
