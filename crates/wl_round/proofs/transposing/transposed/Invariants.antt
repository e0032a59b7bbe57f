use Rattle.std.proofs.Common.{◌≡◌, ◌+◌, ◌*◌, map}
use Rattle.pair_colours.specs.Colouring.{points}
use Rattle.wl_round.proofs.PlaceLists.{turned_to}
use Rattle.wl_round.proofs.transposing.transposed.Given as goal

abbrev pub invariant-loop-x : goal.invariant-loop-x
invariant-loop-x l = l.turned.items ≡ map (turned_to l.size l.class) (points (l.x * l.size))

abbrev pub invariant-loop-y : goal.invariant-loop-y
invariant-loop-y l = l.turned.items ≡ map (turned_to l.size l.class) (points (l.x * l.size + l.y))
