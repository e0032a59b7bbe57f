use Rattle.std.proofs.Common.{◌≡◌, ◌==◌, filter, get_or}
use Rattle.pair_colours.specs.Colouring.{points}
use Rattle.quotients.proofs.classes.points_with.Given as goal

abbrev pub invariant-loop-y : goal.invariant-loop-y
invariant-loop-y l = l.found.items ≡ filter (λ y. get_or l.leasts y 0 == l.least) (points l.y)
