use Rattle.std.proofs.Common.{◌∙◌}
use Rattle.struct_consts.proofs.Constancy.{valency-everywhere}
use Rattle.struct_consts.proofs.KeptLemmas.{kept_class}
use Rattle.struct_consts.proofs.intersection_numbers.Constants.valency.Goals as goal

pub returns-clause-everywhere : goal.returns-clause-everywhere
returns-clause-everywhere c = λ x y hx hy e.
    let K = c.args.self.now in
    let d = kept_class _ K _ c.args.k c.index.result.now c.self.invariant c.self.view_is c.requires c.index.ensures in
    d.1.valency ∙ valency-everywhere K d.0 c.args.k x y c.requires hx hy e
