use Rattle.std.proofs.Common.{◌-◌, get_or, arith}
use Rattle.wl_round.specs.CodeCounts.{sum_at}
use Rattle.wl_round.proofs.SumCounts.{comes_more, taken_more}
use Rattle.wl_round.proofs.code_counts.exceeding_down.Goals as goal

pub returns-then-counts-code-eq0-clause-some : goal.returns-then-counts-code-eq0-clause-some
returns-then-counts-code-eq0-clause-some c =
    let code = sum_at c.args.left.now c.args.right.now c.loop-z.z in
    (c.loop-z-test.true, omega (arith, c.loop-z.invariant code, c.if-counts-code-eq0.true, comes_more c.args.left.now c.args.right.now c.loop-z.z c.loop-z-test.true))

pub loop-z-preserved : goal.loop-z-preserved
loop-z-preserved c =
    let code = sum_at c.args.left.now c.args.right.now c.loop-z.z in
    taken_more c.args.left.now c.args.right.now c.loop-z.z (get_or c.loop-z.counts code 0 - 1) c.args.counts.now c.loop-z.counts
    (omega (arith, c.requires.sides.below c.loop-z.z c.loop-z-test.true)) (omega (arith, c.if-counts-code-eq0.false)) c.loop-z.invariant
