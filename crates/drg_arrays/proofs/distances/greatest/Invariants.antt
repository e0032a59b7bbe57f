use Rattle.std.proofs.Common.{◌≡◌, ℕ, ◌<◌, ◌≤◌, get_or, length}
use Rattle.drg_arrays.proofs.distances.greatest.Given as goal

abbrev pub invariant-loop-distance : goal.invariant-loop-distance
invariant-loop-distance l = record {
  bound : (k : ℕ) → k < l.distance-index → get_or l.table k 0 ≤ l.greatest;
  found : (k : ℕ) × (k < length l.table) × (get_or l.table k 0 ≡ l.greatest);
}
