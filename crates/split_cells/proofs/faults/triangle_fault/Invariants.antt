use Rattle.std.proofs.Common.{ℕ, ◌*◌, ◌<◌}
use Rattle.split_cells.specs.Pairs.{partition_of}
use Rattle.split_cells.specs.Faults.{HasLikeRowsOnce}
use Rattle.wl_round.specs.CodeCounts.{AreBlank}
use Rattle.split_cells.proofs.faults.triangle_fault.Given as goal

abbrev pub invariant-loop-k : goal.invariant-loop-k
invariant-loop-k l = record {
  blank : AreBlank (l.pairs.size * l.pairs.size) l.want l.got;
  once : (j : ℕ) → j < l.k → HasLikeRowsOnce (partition_of l.pairs) j;
}
