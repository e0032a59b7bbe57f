use Rattle.std.proofs.Common.{◌≡◌, ℕ, ◌+◌, ◌*◌, ◌%◌, ◌^◌, ◌<◌, length, sum_by, slice_index}
use Rattle.mergings.specs.Searches.{block_at}
use Rattle.mergings.proofs.products.add_right.Given as goal

abbrev pub invariant-loop-j : goal.invariant-loop-j
invariant-loop-j l = record {
  len : length l.sums ≡ 256;
  each : (y k : ℕ) → y < 16 → k < 16 → slice_index l.sums (y * 16 + k) ≡ sum_by (λ j. slice_index l.rows (j * 16 + k)) (block_at l.j l.heads y) % 2 ^ 32;
}
