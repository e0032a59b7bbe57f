use Rattle.std.proofs.Common.{◌≡◌, ◌≢◌, ℕ, ◌<◌, length}
use Rattle.pair_colours.specs.Colouring.{colour_at}
use Rattle.split_cells.proofs.cells.Cells.copy_row.Given as goal

abbrev pub invariant-loop-y : goal.invariant-loop-y
invariant-loop-y l = record {
  size : l.colouring.size ≡ l.fn.colouring.size;
  len : length l.colouring.colours ≡ length l.fn.colouring.colours;
  row : (y : ℕ) → y < l.y → colour_at l.colouring l.x y ≡ colour_at l.self l.x y;
  others : (u v : ℕ) → u < l.self.size → v < l.self.size → u ≢ l.x → colour_at l.colouring u v ≡ colour_at l.fn.colouring u v;
}
