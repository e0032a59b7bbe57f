use Rattle.struct_consts.proofs.KeptLemmas.{kept_class, transpose_below, transpose_everywhere}
use Rattle.struct_consts.proofs.intersection_numbers.Constants.transpose.Goals as goal

pub returns-clause-class : goal.returns-clause-class
returns-clause-class c =
    let K = c.args.self.now in
    let d = kept_class _ K _ c.args.k c.index.result.now c.self.invariant c.self.view_is c.requires c.index.ensures in
    transpose_below K c.args.k c.index.result.now d.0 d.1

pub returns-clause-everywhere : goal.returns-clause-everywhere
returns-clause-everywhere c =
    let K = c.args.self.now in
    let d = kept_class _ K _ c.args.k c.index.result.now c.self.invariant c.self.view_is c.requires c.index.ensures in
    transpose_everywhere K c.args.k c.index.result.now d.0 d.1
