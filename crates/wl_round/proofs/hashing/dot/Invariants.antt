use Rattle.std.proofs.Common.{◌≡◌, ◌%◌, ◌^◌}
use Rattle.wl_round.proofs.DotSums.{dot_to}
use Rattle.wl_round.proofs.hashing.dot.Given as goal

abbrev pub invariant-loop-z : goal.invariant-loop-z
invariant-loop-z l = l.sum ≡ dot_to l.left l.right l.z % 2 ^ 64
