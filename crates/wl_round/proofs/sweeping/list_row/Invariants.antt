use Rattle.std.proofs.Common.{◌≡◌, ◌≢◌, ℕ, ◌+◌, ◌*◌, ◌<◌, get_or}
use Rattle.pair_colours.specs.Colouring.{colour_at}
use Rattle.wl_round.proofs.sweeping.list_row.Given as goal

abbrev pub invariant-loop-y : goal.invariant-loop-y
invariant-loop-y l = record {
  size : l.listed.size ≡ l.fn.listed.size;
  row : (y : ℕ) → y < l.y → colour_at l.listed l.x y ≡ get_or l.colours (l.x * l.fn.listed.size + y) 0;
  others : (u v : ℕ) → u < l.fn.listed.size → v < l.fn.listed.size → u ≢ l.x → colour_at l.listed u v ≡ colour_at l.fn.listed u v;
}
