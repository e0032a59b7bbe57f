use Rattle.std.proofs.Common.{◌≡◌, ◌≢◌, ℕ, ◌<◌, length, slice_index}
use Rattle.pair_colours.specs.Colouring.{colour_at}
use Rattle.split_cells.proofs.renumbering.show_row.Given as goal

abbrev pub invariant-loop-y : goal.invariant-loop-y
invariant-loop-y l = record {
  size : l.parted.size ≡ l.fn.parted.size;
  len : length l.parted.colours ≡ length l.fn.parted.colours;
  row : (y : ℕ) → y < l.y → colour_at l.parted l.x y ≡ slice_index l.numbers (colour_at l.round l.x y);
  others : (u v : ℕ) → u < l.round.size → v < l.round.size → u ≢ l.x → colour_at l.parted u v ≡ colour_at l.fn.parted u v;
}
