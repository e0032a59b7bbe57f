use Rattle.std.proofs.Common.{◌+◌, ◌-◌, ◌*◌, ◌<◌, get_or, arith}
use Rattle.pair_colours.proofs.Places.{place_below}
use Rattle.wl_round.proofs.RowCodeLemmas.{IsNotedFrom-more}
use Rattle.wl_round.proofs.row_codes.note_places.Goals as goal

pub loop-z-preserved : goal.loop-z-preserved
loop-z-preserved c =
    let n = c.args.size in
    let a = c.args.a in
    let z = c.loop-z.z - 1 in
    let hz : z < n = omega (arith, c.loop-z-test.true, c.loop-z.auto.z, c.row_of-row.ensures.len) in
    let is = c.row_of-row.ensures.entries z hz in
    IsNotedFrom-more n c.args.class.now a z c.loop-z.z (get_or c.row_of-row.result.now z 0) c.loop-z.short (omega (arith, c.loop-z-test.true)) hz is
    (omega (arith, is, c.requires.square.below (a * n + z) (place_below n a z c.requires.row hz), c.loop-z.auto.short, c.requires.len)) c.loop-z.invariant
