use Rattle.std.proofs.Common.{◌≡◌, ℕ, ◌+◌, ◌%◌, ◌^◌, ◌<◌, ◌≤◌, length, slice_index}
use Rattle.mergings.proofs.products.add_square.Given as goal

abbrev pub invariant-loop-p : goal.invariant-loop-p
invariant-loop-p l = record {
  len : length l.rows ≡ length l.fn.rows;
  before : (j : ℕ) → j < l.p → slice_index l.rows j ≡ (slice_index l.fn.rows j + slice_index l.table (l.start + j)) % 2 ^ 32;
  later : (j : ℕ) → l.p ≤ j → slice_index l.rows j ≡ slice_index l.fn.rows j;
}
