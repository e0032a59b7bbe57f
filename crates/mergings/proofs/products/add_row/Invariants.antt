use Rattle.std.proofs.Common.{◌≡◌, ℕ, ◌+◌, ◌%◌, ◌^◌, ◌<◌, ◌≤◌, length, slice_index}
use Rattle.mergings.proofs.products.add_row.Given as goal

abbrev pub invariant-loop-k : goal.invariant-loop-k
invariant-loop-k l = record {
  len : length l.sums ≡ length l.fn.sums;
  before : (j : ℕ) → j < l.k → slice_index l.sums (l.to + j) ≡ (slice_index l.fn.sums (l.to + j) + slice_index l.rows (l.from + j)) % 2 ^ 32;
  later : (p : ℕ) → l.to + l.k ≤ p → slice_index l.sums p ≡ slice_index l.fn.sums p;
  below : (p : ℕ) → p < l.to → slice_index l.sums p ≡ slice_index l.fn.sums p;
}
