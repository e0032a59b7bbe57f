use Rattle.std.proofs.Common.{◌==◌, ◌&&◌, ap, arith}
use Rattle.pair_colours.specs.Colouring.{colour_at}
use Rattle.pair_colours.proofs.Counts.{unit_of, count_more, count_short}
use Rattle.triangle_count.proofs.triangles.count.Goals as goal
use Rattle.triangle_count.proofs.triangles.count.Goals.{then-has_sides, else-has_sides}

pub overflow_add-count : goal.overflow_add-count
overflow_add-count c =
    let C = c.args.c.now in
    omega (arith, c.loop-z.invariant, count_short (λ z. (colour_at C c.args.x z == c.args.left) && (colour_at C z c.args.y == c.args.right)) c.loop-z.z)

pub loop-z-preserved : goal.loop-z-preserved
loop-z-preserved c =
    let C = c.args.c.now in
    let step = count_more (λ z. (colour_at C c.args.x z == c.args.left) && (colour_at C z c.args.y == c.args.right)) c.loop-z.z c.loop-z.count c.if-has_sides.count c.loop-z.invariant in
    elim c.if-has_sides.branch [
      | then-has_sides w ↦ step (omega (arith, w.count-is, ap unit_of (c.has_sides.ensures), ap unit_of w.if-has_sides.true))
      | else-has_sides w ↦ step (omega (arith, w.count-is, ap unit_of (c.has_sides.ensures), ap unit_of w.if-has_sides.false))
    ]
