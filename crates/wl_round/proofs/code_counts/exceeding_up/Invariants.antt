use Rattle.std.proofs.Common.{◌≡◌, ℕ, ◌≤◌, get_or}
use Rattle.wl_round.proofs.SumCounts.{count_to}
use Rattle.wl_round.proofs.code_counts.exceeding_up.Given as goal

abbrev pub invariant-loop-z : goal.invariant-loop-z
invariant-loop-z l = record {
  counted : (code : ℕ) → get_or l.got code 0 ≡ count_to l.left l.right l.z code;
  within : (code : ℕ) → get_or l.got code 0 ≤ get_or l.want code 0;
}
