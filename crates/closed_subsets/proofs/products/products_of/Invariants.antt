use Rattle.std.proofs.Common.{◌≡◌, ℕ, ◌<◌, ◌/◌, ◌%◌, length, slice_index}
use Rattle.pair_colours.specs.Naming.{rank_of}
use Rattle.visitors.specs.Masks.{HasBits}
use Rattle.closed_subsets.specs.Products.{is_product}
use Rattle.closed_subsets.proofs.products.products_of.Given as goal

abbrev pub invariant-loop-place : goal.invariant-loop-place
invariant-loop-place l = record {
  len : length l.table.items ≡ l.place;
  each : (p : ℕ) → p < l.place → HasBits (rank_of l.k) (slice_index l.table.items p) (is_product l.k (p / rank_of l.k) (p % rank_of l.k));
}
