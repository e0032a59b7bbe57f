use Rattle.std.proofs.Common.{◌+◌, ◌*◌, ◌<◌, get_or, arith}
use Rattle.pair_colours.proofs.Places.{place_below}
use Rattle.split_cells.proofs.CodeTables.{IsShortenedTo-more}
use Rattle.split_cells.proofs.FaultSteps.{below}
use Rattle.split_cells.proofs.codes.shorten.Goals as goal

pub loop-z-preserved : goal.loop-z-preserved
loop-z-preserved c =
    let pairs = c.args.pairs.now in
    let n = pairs.size in
    let z = c.loop-z.z in
    let hz : z < n = omega (arith, c.loop-z-test.true, c.row-row.ensures.len) in
    let is = c.row-row.ensures.entries z hz in
    let inside = below pairs c.requires.classed (c.args.x * n + z) (place_below n c.args.x z c.requires.point hz) in
    IsShortenedTo-more pairs c.args.x z (get_or c.row-row.result.now z 0) c.args.short.now c.loop-z.short hz is (omega (arith, is, inside, c.requires.len)) c.loop-z.invariant
