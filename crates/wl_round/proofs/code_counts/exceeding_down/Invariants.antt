use Rattle.std.proofs.Common.{◌≡◌, ℕ, ◌+◌, get_or}
use Rattle.wl_round.proofs.SumCounts.{count_to}
use Rattle.wl_round.proofs.code_counts.exceeding_down.Given as goal

abbrev pub invariant-loop-z : goal.invariant-loop-z
invariant-loop-z l = (code : ℕ) → get_or l.counts code 0 + count_to l.left l.right l.z code ≡ get_or l.fn.counts code 0
