use Rattle.std.proofs.Common.{◌≡◌, ◌==◌, filter, get_or}
use Rattle.pair_colours.specs.Colouring.{points}
use Rattle.quotients.proofs.classes.first_points.Given as goal

abbrev pub invariant-loop-y : goal.invariant-loop-y
invariant-loop-y l = l.found.items ≡ filter (λ y. get_or l.leasts y 0 == y) (points l.y)
