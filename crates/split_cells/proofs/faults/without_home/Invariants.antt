use Rattle.std.proofs.Common.{ℕ, ◌<◌}
use Rattle.split_cells.specs.FirstPairs.{IsHomeOfFirst}
use Rattle.split_cells.proofs.faults.without_home.Given as goal

abbrev pub invariant-loop-p : goal.invariant-loop-p
invariant-loop-p l = (q : ℕ) → q < l.p → IsHomeOfFirst l.pairs q
