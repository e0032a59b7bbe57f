use Rattle.std.proofs.Common.{◌≡◌, ◌++◌}
use Rattle.relation_text.proofs.BitWrites.{bytes_to}
use Rattle.relation_text.proofs.encoding.push_bits.Given as goal

abbrev pub invariant-loop-q : goal.invariant-loop-q
invariant-loop-q l = l.text.items ≡ l.fn.text.items ++ bytes_to l.bits l.q
