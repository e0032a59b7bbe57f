use Rattle.std.proofs.Common.{◌≡◌}
use Rattle.relation_text.specs.Written.{pair_bits}
use Rattle.relation_text.proofs.PairWrites.{bits_to, row_pair, rows_to}
use Rattle.relation_text.proofs.writers.bits_in_rows.Given as goal

abbrev pub invariant-loop-i : goal.invariant-loop-i
invariant-loop-i l = l.bits.items ≡ pair_bits l.relation l.set (rows_to l.relation.size l.i)

abbrev pub invariant-loop-j : goal.invariant-loop-j
invariant-loop-j l = l.bits.items ≡ bits_to l.relation l.set (rows_to l.relation.size l.i) (row_pair l.i) l.j
