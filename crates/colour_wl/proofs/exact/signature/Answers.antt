use Rattle.std.proofs.Common.{arith}
use Rattle.colour_wl.proofs.Classes.{pair_of_class-holds}
use Rattle.colour_wl.proofs.ColourRounds.{signature_made}
use Rattle.colour_wl.proofs.exact.signature.Goals as goal

pub returns : goal.returns
returns c =
    let K = c.args.k.now in
    let a = c.args.a.now in
    let p = pair_of_class-holds K c.requires.configuration c.args.class c.requires.class in
    signature_made K c.requires.configuration a c.args.class c.transpose.result c.from.result c.from-2.result c.from-3.result c.pair-x.result
    c.in_ok-codes.codes.items c.sort_unstable.new.self.items c.push-3.new.self.items c.requires.class c.pair-x.ensures.first
    (c.transpose.ensures.everywhere _ _ p.row p.column p.colour) c.from.ensures (omega (arith, c.from-2.ensures)) (omega (arith, c.from-3.ensures))
    c.in_ok-codes.ensures c.sort_unstable.ensures.permutation c.sort_unstable.ensures.sorted
    (let x = c.in_ok-push.ensures.items in let y = c.in_ok-push-2.ensures.items in let z = c.in_ok-push-3.ensures.items in cc)
