use Rattle.std.proofs.Common.{ℕ, ◌<◌}
use Rattle.drg_arrays.specs.Tables.{IsAlikeAt}
use Rattle.drg_arrays.proofs.places.first_unlike.Given as goal

abbrev pub invariant-loop-place : goal.invariant-loop-place
invariant-loop-place l = (k : ℕ) → k < l.place → IsAlikeAt l.distances l.firsts l.counts.nearer.items l.counts.farther.items k
