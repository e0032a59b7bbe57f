use Rattle.wl_round.proofs.SumCounts.{IsClearedTo}
use Rattle.wl_round.proofs.code_counts.clear.Given as goal

abbrev pub invariant-loop-z : goal.invariant-loop-z
invariant-loop-z l = IsClearedTo l.left l.right l.z l.counts
