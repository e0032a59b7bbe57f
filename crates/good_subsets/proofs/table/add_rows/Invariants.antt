use Rattle.std.proofs.Common.{◌≡◌, ℕ, ◌+◌, ◌%◌, ◌^◌, ◌<◌, length, take, slice_index, sum_by}
use Rattle.pair_colours.specs.Naming.{rank_of}
use Rattle.pair_colours.specs.IntersectionNumber.{intersection_number}
use Rattle.good_subsets.proofs.table.add_rows.Given as goal

abbrev pub invariant-loop-place : goal.invariant-loop-place
invariant-loop-place l = record {
  len : length l.sums ≡ 16;
  each : (m : ℕ) → m < rank_of l.k → slice_index l.sums m ≡ (slice_index l.fn.sums m + sum_by (λ j. intersection_number l.k l.i j m) (take l.place l.right)) % 2 ^ 32;
}
