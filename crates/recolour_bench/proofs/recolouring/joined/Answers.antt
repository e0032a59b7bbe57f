use Rattle.std.proofs.Common.{◌≡◌, ◌*◌, arith}
use Rattle.recolour_bench.proofs.Joined.{IsJoinedTo-end}
use Rattle.recolour_bench.proofs.recolouring.joined.Goals as goal

pub returns : goal.returns
returns c =
    let C = c.args.colouring.now in
    let n : c.size-size.result ≡ C.size = c.size-size.ensures.points in
    let end : c.loop-x.x ≡ C.size = omega arith in
    IsJoinedTo-end C c.loop-x.next c.args.keep c.args.gone (c.loop-x.x * c.size-size.result) c.size-size.ensures.within.colouring (λ i. end i * n i) c.loop-x.invariant
