use Rattle.std.proofs.Common.{◌≡◌, ℕ, ◌%◌, ◌^◌, ◌<◌, length, take, slice_index}
use Rattle.pair_colours.specs.Naming.{rank_of}
use Rattle.colour_wl.specs.BlockSums.{product_at}
use Rattle.good_subsets.proofs.table.product.Given as goal

abbrev pub invariant-loop-place : goal.invariant-loop-place
invariant-loop-place l = record {
  len : length l.sums ≡ 16;
  each : (m : ℕ) → m < rank_of l.k → slice_index l.sums m ≡ product_at l.k (take l.place l.left) l.right m % 2 ^ 32;
}
