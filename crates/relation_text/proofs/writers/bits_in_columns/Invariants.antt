use Rattle.std.proofs.Common.{◌≡◌}
use Rattle.relation_text.specs.Orders.{column_pairs}
use Rattle.relation_text.specs.Written.{pair_bits}
use Rattle.relation_text.proofs.PairWrites.{bits_to, column_pair}
use Rattle.relation_text.proofs.writers.bits_in_columns.Given as goal

abbrev pub invariant-loop-j : goal.invariant-loop-j
invariant-loop-j l = l.bits.items ≡ pair_bits l.relation l.set (column_pairs l.j)

abbrev pub invariant-loop-i : goal.invariant-loop-i
invariant-loop-i l = l.bits.items ≡ bits_to l.relation l.set (column_pairs l.j) (column_pair l.j) l.i
