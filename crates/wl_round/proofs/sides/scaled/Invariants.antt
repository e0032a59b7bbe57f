use Rattle.std.proofs.Common.{◌≡◌, ◌*◌, get_or, map}
use Rattle.pair_colours.specs.Colouring.{points}
use Rattle.wl_round.proofs.sides.scaled.Given as goal

abbrev pub invariant-loop-p : goal.invariant-loop-p
invariant-loop-p l = l.lefts.items ≡ map (λ p. get_or l.places p 0 * l.size) (points l.p)
