use Rattle.std.proofs.Common.{◌≡◌, ℕ, ◌<◌, ◌≤◌, length, get_or}
use Rattle.drg_arrays.proofs.FirstPlaces.{IsFirstFrom}
use Rattle.drg_arrays.proofs.places.first_places.Given as goal

abbrev pub invariant-loop-place : goal.invariant-loop-place
invariant-loop-place l = record {
  len : length l.firsts.items ≡ l.limit;
  at : (p : ℕ) → l.place ≤ p → p < length l.table → IsFirstFrom l.table l.place p (get_or l.firsts.items (get_or l.table p 0) 0);
}
