use Rattle.std.proofs.Common.{◌≡◌, ℕ, ◌+◌, ◌*◌, ◌<◌, get_or}
use Rattle.pair_colours.specs.Colouring.{colour_at}
use Rattle.wl_round.proofs.sweeping.listed.Given as goal

abbrev pub invariant-loop-x : goal.invariant-loop-x
invariant-loop-x l = record {
  size : l.listed.size ≡ l.size;
  rows : (x y : ℕ) → x < l.x → y < l.size → colour_at l.listed x y ≡ get_or l.colours (x * l.size + y) 0;
}
