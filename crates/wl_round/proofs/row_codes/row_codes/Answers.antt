use Rattle.std.proofs.Common.{arith}
use Rattle.wl_round.proofs.RowCodeLemmas.{tried_all}
use Rattle.wl_round.proofs.row_codes.row_codes.Goals as goal

pub returns : goal.returns
returns c =
    let i = c.loop-a.invariant in
    tried_all c.args.size c.args.class.now c.loop-a.a c.loop-a.codes.leads.items c.loop-a.codes.places.items (omega (arith, c.loop-a-test.false)) i.leads_len i.places_len i.tried
