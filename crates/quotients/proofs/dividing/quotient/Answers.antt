use Rattle.std.proofs.Common.{subst, sym}
use Rattle.pair_colours.specs.ColourSets.{is_in}
use Rattle.quotients.specs.Law.{IsParted}
use Rattle.quotients.specs.Steps.{AreLeasts}
use Rattle.quotients.proofs.LawProofs.{quotient_is_coherent}
use Rattle.quotients.proofs.dividing.quotient.Goals as goal

pub returns-clause-coherent : goal.returns-clause-coherent
returns-clause-coherent c =
    let K = c.args.k.now in
    let S = is_in c.args.set.now in
    let good = c.in_ok-leasts.ensures in
    let parted : IsParted K S = record { colouring = good.within.colouring; coherent = c.requires.coherent; one_fibre = good.good.0; closed = good.good.1.closed } in
    let leasts = subst (AreLeasts K S) (sym c.deref.ensures.value) good.leasts in
    quotient_is_coherent K S c.in_ok-divided.field-0 parted (c.in_ok-divided.ensures.quotient S parted leasts)
