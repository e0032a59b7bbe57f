use Rattle.std.proofs.Common.{◌<◌, subst, sym, arith}
use Rattle.pair_colours.specs.ColourSets.{is_in}
use Rattle.quotients.specs.Law.{IsParted}
use Rattle.quotients.specs.Steps.{AreLeasts}
use Rattle.quotients.proofs.LawProofs.{subscheme_is_coherent}
use Rattle.quotients.proofs.dividing.subscheme.Goals as goal

pub returns-clause-coherent : goal.returns-clause-coherent
returns-clause-coherent c =
    let K = c.args.k.now in
    let S = is_in c.args.set.now in
    let good = c.in_ok-least.ensures in
    let parted : IsParted K S = record { colouring = good.within.colouring; coherent = c.requires.coherent; one_fibre = good.good.0; closed = good.good.1.closed } in
    let leasts = subst (AreLeasts K S) (sym c.deref.ensures.value) good.leasts in
    let point : c.args.x < K.size = omega arith in
    subscheme_is_coherent K S c.args.x c.in_ok-cut_out.field-0 parted point (c.in_ok-cut_out.ensures.subscheme S parted leasts)
