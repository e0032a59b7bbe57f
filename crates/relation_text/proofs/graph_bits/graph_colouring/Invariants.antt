use Rattle.relation_text.proofs.BitLoops.{EdgesTo}
use Rattle.relation_text.proofs.graph_bits.graph_colouring.Given as goal

abbrev pub invariant-loop-j : goal.invariant-loop-j
invariant-loop-j l = EdgesTo l.bytes l.colouring l.size l.k 0 l.j

abbrev pub invariant-loop-i : goal.invariant-loop-i
invariant-loop-i l = EdgesTo l.bytes l.colouring l.size l.k l.i l.j
