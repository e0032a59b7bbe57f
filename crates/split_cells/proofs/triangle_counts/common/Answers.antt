use Rattle.std.proofs.Common.{◌==◌, ◌&&◌, get_or, ap, arith}
use Rattle.pair_colours.proofs.Counts.{unit_of, count_more, count_short}
use Rattle.split_cells.proofs.triangle_counts.common.Goals as goal
use Rattle.split_cells.proofs.triangle_counts.common.Goals.{then-has_both, else-has_both}

pub overflow_add-count : goal.overflow_add-count
overflow_add-count c =
    omega (arith, c.loop-z.invariant, count_short (λ z. (get_or c.args.xs.now z 0 == c.args.left) && (get_or c.args.ys.now z 0 == c.args.right)) c.loop-z.z)

pub loop-z-preserved : goal.loop-z-preserved
loop-z-preserved c =
    let step = count_more (λ z. (get_or c.args.xs.now z 0 == c.args.left) && (get_or c.args.ys.now z 0 == c.args.right)) c.loop-z.z c.loop-z.count c.if-has_both.count c.loop-z.invariant in
    elim c.if-has_both.branch [
      | then-has_both w ↦ step (omega (arith, w.count-is, ap unit_of (c.has_both.ensures), ap unit_of w.if-has_both.true))
      | else-has_both w ↦ step (omega (arith, w.count-is, ap unit_of (c.has_both.ensures), ap unit_of w.if-has_both.false))
    ]
