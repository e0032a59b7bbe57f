use Rattle.std.proofs.Common.{◌≡◌, true, false, arith}
use Rattle.std.proofs.Math.Dec.{leb}
use Rattle.std.proofs.lemmas.Bool.{leb-true, leb-false}
use Rattle.fusion_lattice.specs.declared.covering.TheConstants.{MOST_FUSIONS}
use Rattle.neighbour_answers.proofs.LatticeProofs.{are_listed}
use Rattle.neighbour_answers.proofs.lattice_answers.list_fusions.Goals as goal

pub returns-in-Ok : goal.returns-in-Ok
returns-in-Ok g c =
    are_listed c.args.k.now _ _ _ c.begin.ensures.1 c.in-Ok.ensures.cut
    (λ (few : leb c.len.result MOST_FUSIONS ≡ true). omega (arith, leb-true c.len.result MOST_FUSIONS few, c.len.ensures))
    (λ (many : leb c.len.result MOST_FUSIONS ≡ false). omega (arith, leb-false c.len.result MOST_FUSIONS many, c.len.ensures))
