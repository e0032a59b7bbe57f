use Rattle.std.proofs.Common.{◌+◌, ◌<◌, ◌≤◌, length, get_or, refl, ap, arith}
use Rattle.wl_round.specs.CodeCounts.{sum_at}
use Rattle.wl_round.proofs.OneWrite.{one_write}
use Rattle.wl_round.proofs.SumCounts.{comes_more, counted_more}
use Rattle.wl_round.proofs.code_counts.exceeding_up.Goals as goal

pub returns-then-got-code-clause-some : goal.returns-then-got-code-clause-some
returns-then-got-code-clause-some c =
    let code = sum_at c.args.left.now c.args.right.now c.loop-z.z in
    (c.loop-z-test.true, omega (arith, c.loop-z.invariant.counted code, c.if-got-code.true, comes_more c.args.left.now c.args.right.now c.loop-z.z c.loop-z-test.true))

pub loop-z-preserved : goal.loop-z-preserved
loop-z-preserved c =
    let left = c.args.left.now in
    let right = c.args.right.now in
    let z = c.loop-z.z in
    let code = sum_at left right z in
    let got = c.loop-z.got in
    let inside : code < length got = omega (arith, c.requires.sides.below z c.loop-z-test.true) in
    let i = c.loop-z.invariant in
    record {
      counted = counted_more left right z (get_or got code 0 + 1) got inside refl i.counted;
      within = λ d. one_write (λ w. w ≤ get_or c.args.want.now d 0) got code (get_or got code 0 + 1) d inside
          (λ e. omega (arith, i.within code, c.if-got-code.false, ap (λ w. get_or c.args.want.now w 0) e))
          (λ _. i.within d);
    }
