use Rattle.std.proofs.Common.{◌≡◌, ℕ, ◌+◌, ◌/◌, ◌%◌, ◌<◌, length, get_or}
use Rattle.drg_arrays.specs.Tables.{neighbour_count}
use Rattle.drg_arrays.proofs.counts.counts_of.Given as goal

abbrev pub invariant-loop-place : goal.invariant-loop-place
invariant-loop-place l = record {
  nearer_len : length l.counts.nearer.items ≡ l.place;
  farther_len : length l.counts.farther.items ≡ l.place;
  nearer_is : (p : ℕ) → p < l.place → get_or l.counts.nearer.items p 0 ≡ neighbour_count l.graph l.distances (p / l.graph.size) (p % l.graph.size) (get_or l.distances p 0);
  farther_is : (p : ℕ) → p < l.place → get_or l.counts.farther.items p 0 ≡ neighbour_count l.graph l.distances (p / l.graph.size) (p % l.graph.size) (get_or l.distances p 0 + 2);
}
