use Rattle.struct_consts.proofs.Configurations.{first_pair_holds}
use Rattle.struct_consts.proofs.KeptLemmas.{kept_class}
use Rattle.struct_consts.proofs.intersection_numbers.Constants.pair.Goals as goal

pub returns-clause-row : goal.returns-clause-row
returns-clause-row c =
    let K = c.args.self.now in
    let d = kept_class _ K _ c.args.k c.index.result.now c.self.invariant c.self.view_is c.requires c.index.ensures in
    (first_pair_holds K c.args.k c.index.result.now.pair d.1.pair).row

pub returns-clause-column : goal.returns-clause-column
returns-clause-column c =
    let K = c.args.self.now in
    let d = kept_class _ K _ c.args.k c.index.result.now c.self.invariant c.self.view_is c.requires c.index.ensures in
    (first_pair_holds K c.args.k c.index.result.now.pair d.1.pair).column

pub returns-clause-colour : goal.returns-clause-colour
returns-clause-colour c =
    let K = c.args.self.now in
    let d = kept_class _ K _ c.args.k c.index.result.now c.self.invariant c.self.view_is c.requires c.index.ensures in
    (first_pair_holds K c.args.k c.index.result.now.pair d.1.pair).colour
