use Rattle.std.proofs.Common.{◌≡◌, arith}
use Rattle.pair_colours.specs.SideCodes.{side_code}
use Rattle.pair_colours.proofs.SideCodes.{side_codes_more}
use Rattle.pair_colours.proofs.pair_codes.side_codes.Goals as goal

pub loop-z-preserved : goal.loop-z-preserved
loop-z-preserved c =
    let P = c.args.colouring.now in
    let z = c.loop-z.z in
    let code : c.pair_code.result ≡ side_code P c.args.x c.args.y z = omega (arith, c.pair_code.ensures, c.get.ensures, c.get-in-loop-z.ensures) in
    side_codes_more P c.args.x c.args.y z c.pair_code.result c.loop-z.codes.items c.push.new.self.items c.loop-z.invariant code c.in_ok-push.ensures.items
