use Rattle.std.proofs.Common.{ℕ, ◌<◌}
use Rattle.split_cells.specs.FirstPairs.{IsLikeFirst}
use Rattle.split_cells.proofs.faults.unsettled.Given as goal

abbrev pub invariant-loop-p : goal.invariant-loop-p
invariant-loop-p l = (q : ℕ) → q < l.p → IsLikeFirst l.pairs q
