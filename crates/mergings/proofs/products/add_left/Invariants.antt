use Rattle.std.proofs.Common.{◌≡◌, ℕ, ◌+◌, ◌*◌, ◌%◌, ◌^◌, ◌<◌, length, sum_by, slice_index}
use Rattle.mergings.specs.Searches.{block_at}
use Rattle.mergings.proofs.products.add_left.Given as goal

abbrev pub invariant-loop-i : goal.invariant-loop-i
invariant-loop-i l = record {
  len : length l.rows ≡ 256;
  each : (p : ℕ) → p < 256 → slice_index l.rows p ≡ sum_by (λ i. slice_index l.table (i * 256 + p)) (block_at l.i l.heads l.head) % 2 ^ 32;
}
