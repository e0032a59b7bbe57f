use Rattle.std.proofs.Common.{◌<◌, get_or, ap, arith}
use Rattle.wl_round.proofs.RowCodeLemmas.{IsWrittenTo-more}
use Rattle.wl_round.proofs.row_codes.write_places.Goals as goal

pub loop-z-preserved : goal.loop-z-preserved
loop-z-preserved c =
    let n = c.args.size in
    let z = c.loop-z.z in
    let short = c.args.short.now in
    let hz : z < n = omega (arith, c.loop-z-test.true, c.row_of-row.ensures.len) in
    IsWrittenTo-more n c.args.class.now short c.args.x c.args.places.now z (get_or short (get_or c.row_of-row.result.now z 0) 0) c.loop-z.places c.requires.row hz c.requires.places
    (ap (λ k. get_or short k 0) (c.row_of-row.ensures.entries z hz)) c.loop-z.invariant
