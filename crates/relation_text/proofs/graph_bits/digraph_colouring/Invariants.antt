use Rattle.relation_text.proofs.BitLoops.{ArcsTo}
use Rattle.relation_text.proofs.graph_bits.digraph_colouring.Given as goal

abbrev pub invariant-loop-i : goal.invariant-loop-i
invariant-loop-i l = ArcsTo l.bytes l.colouring l.size l.i 0

abbrev pub invariant-loop-j : goal.invariant-loop-j
invariant-loop-j l = ArcsTo l.bytes l.colouring l.size l.i l.j
