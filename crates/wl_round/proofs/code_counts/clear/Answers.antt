use Rattle.std.proofs.Common.{arith}
use Rattle.wl_round.proofs.SumCounts.{all_cleared}
use Rattle.wl_round.proofs.code_counts.clear.Goals as goal

pub returns : goal.returns
returns c = all_cleared c.args.left.now c.args.right.now c.loop-z.z c.loop-z.counts (omega (arith, c.loop-z-test.false)) c.loop-z.invariant
