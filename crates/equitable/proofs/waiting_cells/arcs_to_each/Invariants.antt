use Rattle.std.proofs.Common.{◌≡◌, length}
use Rattle.equitable.proofs.waiting_cells.arcs_to_each.Given as goal

abbrev pub invariant-loop-x : goal.invariant-loop-x
invariant-loop-x l = length l.counts.items ≡ l.x
