use Rattle.std.proofs.Common.{◌<◌, sym, subst, List, All}
use Rattle.pair_colours.specs.Naming.{rank_of}
use Rattle.pair_colours.specs.IntersectionNumber.{pair_of_class}
use Rattle.triangle_count.specs.declared.rows.Entry.{Entry}
use Rattle.triangle_count.specs.Row.{IsRowAt}
use Rattle.struct_consts.proofs.Configurations.{pair_of_class-holds}
use Rattle.struct_consts.proofs.KeptLemmas.{kept_class, row_at_pair, row_everywhere, row_colours}
use Rattle.struct_consts.proofs.intersection_numbers.Constants.entries.Goals as goal

pub returns-clause-row : goal.returns-clause-row
returns-clause-row c =
    let K = c.args.self.now in
    let d = kept_class _ K _ c.args.k c.index.result.now c.self.invariant c.self.view_is c.requires c.index.ensures in
    subst (λ (es : List Entry). IsRowAt K (pair_of_class K c.args.k).0 (pair_of_class K c.args.k).1 es) (sym c.deref.ensures) (row_at_pair K c.args.k c.index.result.now d.1)

pub returns-clause-everywhere : goal.returns-clause-everywhere
returns-clause-everywhere c = λ x y hx hy e.
    let K = c.args.self.now in
    let d = kept_class _ K _ c.args.k c.index.result.now c.self.invariant c.self.view_is c.requires c.index.ensures in
    subst (λ (es : List Entry). IsRowAt K x y es) (sym c.deref.ensures) (row_everywhere K c.args.k c.index.result.now d.0 d.1 x y hx hy e)

pub returns-clause-classes : goal.returns-clause-classes
returns-clause-classes c =
    let K = c.args.self.now in
    let d = kept_class _ K _ c.args.k c.index.result.now c.self.invariant c.self.view_is c.requires c.index.ensures in
    let p = pair_of_class-holds K d.0 c.args.k c.requires in
    subst (λ (es : List Entry). All (λ e. (e.left < rank_of K) × (e.right < rank_of K)) es) (sym c.deref.ensures)
    (row_colours K (pair_of_class K c.args.k).0 (pair_of_class K c.args.k).1 c.index.result.now.row.items d.0 p.row p.column (row_at_pair K c.args.k c.index.result.now d.1))
