use Rattle.std.proofs.Common.{◌==◌, ◌+◌, get_or, refl, arith}
use Rattle.wl_round.specs.CodeCounts.{sum_at}
use Rattle.wl_round.proofs.SumCounts.{counted_more}
use Rattle.wl_round.proofs.code_counts.count_up.Goals as goal
use Rattle.pair_colours.proofs.Counts.{count_short}

pub overflow_add-counts-in-loop-z : goal.overflow_add-counts-in-loop-z
overflow_add-counts-in-loop-z c =
    let code = sum_at c.args.left.now c.args.right.now c.loop-z.z in
    omega (arith, c.loop-z.invariant code, count_short (λ w. sum_at c.args.left.now c.args.right.now w == code) c.loop-z.z, c.requires.sides.short)

pub loop-z-preserved : goal.loop-z-preserved
loop-z-preserved c =
    let code = sum_at c.args.left.now c.args.right.now c.loop-z.z in
    counted_more c.args.left.now c.args.right.now c.loop-z.z (get_or c.loop-z.counts code 0 + 1) c.loop-z.counts
    (omega (arith, c.requires.sides.below c.loop-z.z c.loop-z-test.true)) refl c.loop-z.invariant
