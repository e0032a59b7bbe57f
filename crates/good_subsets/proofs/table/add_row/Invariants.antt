use Rattle.std.proofs.Common.{◌≡◌, ℕ, ◌+◌, ◌%◌, ◌^◌, ◌<◌, ◌≤◌, length, slice_index}
use Rattle.good_subsets.proofs.table.add_row.Given as goal

abbrev pub invariant-loop-k : goal.invariant-loop-k
invariant-loop-k l = record {
  len : length l.sums ≡ length l.fn.sums;
  before : (j : ℕ) → j < l.k → slice_index l.sums j ≡ (slice_index l.fn.sums j + slice_index l.table (l.start + j)) % 2 ^ 32;
  later : (j : ℕ) → l.k ≤ j → slice_index l.sums j ≡ slice_index l.fn.sums j;
}
