use Rattle.std.proofs.Common.{◌≡◌, ◌==◌, ◌&&◌, count_by, get_or}
use Rattle.pair_colours.specs.Colouring.{points}
use Rattle.split_cells.proofs.triangle_counts.common.Given as goal

abbrev pub invariant-loop-z : goal.invariant-loop-z
invariant-loop-z l = l.count ≡ count_by (λ z. (get_or l.xs z 0 == l.left) && (get_or l.ys z 0 == l.right)) (points l.z)
