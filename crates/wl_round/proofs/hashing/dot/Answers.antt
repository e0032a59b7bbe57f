use Rattle.std.proofs.Common.{◌+◌, ◌*◌, ◌%◌, ◌^◌, refl}
use Rattle.wl_round.proofs.DotSums.{dot_more}
use Rattle.wl_round.proofs.hashing.dot.Goals as goal

pub loop-z-preserved : goal.loop-z-preserved
loop-z-preserved c =
    let product = c.from.result * c.from-in-loop-z.result % 2 ^ 64 in
    dot_more c.args.left.now c.args.right.now c.loop-z.z c.loop-z.sum product ((c.loop-z.sum + product) % 2 ^ 64) c.loop-z.invariant
    (λ i. c.from.ensures i * c.from-in-loop-z.ensures i % 2 ^ 64) refl
