use Rattle.std.proofs.Common.{sym, ◌∙◌}
use Rattle.std.proofs.lemmas.Bool.Decides.{Decides-eqb}
use Rattle.std.proofs.lemmas.Slice.Eq.{slice_eq-Decides}
use Rattle.colour_wl.proofs.ColourRounds.{coherent_from_same}
use Rattle.colour_wl.proofs.fusing.round.Goals as goal

pub returns-then-eq-2-clause-coherent : goal.returns-then-eq-2-clause-coherent
returns-then-eq-2-clause-coherent c =
    let told = slice_eq-Decides Decides-eqb c.as_slice-then-eq.result.now c.args.a.now c.eq-then-eq.result c.eq-then-eq.ensures in
    coherent_from_same c.args.k.now c.args.a.now c.in_ok-exact.exact.items c.in_ok-exact.ensures.round (sym c.as_slice-then-eq.ensures.value ∙ told.0 c.if-eq-2.true)
