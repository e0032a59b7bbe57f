use Rattle.std.proofs.Common.{◌≡◌, ◌==◌, ◌&&◌, count_by}
use Rattle.pair_colours.specs.Colouring.{colour_at, points}
use Rattle.triangle_count.proofs.triangles.count.Given as goal

-- the points before z are counted
abbrev pub invariant-loop-z : goal.invariant-loop-z
invariant-loop-z l = l.count ≡ count_by (λ z. (colour_at l.c l.x z == l.left) && (colour_at l.c z l.y == l.right)) (points l.z)
