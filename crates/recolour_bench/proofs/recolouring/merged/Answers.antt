use Rattle.std.proofs.Common.{◌≡◌, ◌*◌, arith}
use Rattle.recolour_bench.proofs.Merging.{IsMergedTo-end}
use Rattle.recolour_bench.proofs.recolouring.merged.Goals as goal

pub returns : goal.returns
returns c =
    let C = c.args.colouring.now in
    let n : c.size-size.result ≡ C.size = c.size-size.ensures.points in
    let end : c.loop-x.x ≡ C.size = omega arith in
    IsMergedTo-end C c.loop-x.next c.args.string.now (c.loop-x.x * c.size-size.result) c.size-size.ensures.within.colouring (λ i. end i * n i) c.loop-x.invariant
