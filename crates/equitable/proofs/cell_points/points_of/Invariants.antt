use Rattle.std.proofs.Common.{◌≡◌, ◌==◌, get_or, filter}
use Rattle.pair_colours.specs.Colouring.{points}
use Rattle.equitable.proofs.cell_points.points_of.Given as goal

abbrev pub invariant-loop-z : goal.invariant-loop-z
invariant-loop-z l = l.members.items ≡ filter (λ x. get_or l.cells x 0 == l.cell) (points l.z)
