use Rattle.std.proofs.Common.{◌≡◌, ℕ, ◌<◌, ◌*◌, length}
use Rattle.pair_colours.specs.Colouring.{colour_at}
use Rattle.split_cells.proofs.cells.Cells.colouring.Given as goal

abbrev pub invariant-loop-x : goal.invariant-loop-x
invariant-loop-x l = record {
  size : l.colouring.size ≡ l.self.size;
  len : length l.colouring.colours ≡ l.self.size * l.self.size;
  rows : (x y : ℕ) → x < l.x → y < l.self.size → colour_at l.colouring x y ≡ colour_at l.self x y;
}
