use Rattle.std.proofs.Common.{List, AllPairs, sym, subst}
use Rattle.pair_colours.specs.IntersectionNumber.{pair_of_class}
use Rattle.triangle_count.specs.declared.rows.Entry.{Entry}
use Rattle.triangle_count.specs.Row.{Precedes}
use Rattle.struct_consts.specs.Lookup.{IsCountIn}
use Rattle.struct_consts.proofs.KeptLemmas.{kept_class, row_at_pair, row_everywhere, triangles-count_in}
use Rattle.struct_consts.proofs.intersection_numbers.Constants.value.Goals as goal

pub count_in-requires : goal.count_in-requires
count_in-requires c =
    let d = kept_class _ c.args.self.now _ c.args.k c.index.result.now c.self.invariant c.self.view_is c.requires.class c.index.ensures in
    subst (λ (es : List Entry). AllPairs Precedes es) (sym c.deref.ensures) d.1.row.rises

pub returns-clause-number : goal.returns-clause-number
returns-clause-number c =
    let K = c.args.self.now in
    let k = c.args.k in
    let d = kept_class _ K _ k c.index.result.now c.self.invariant c.self.view_is c.requires.class c.index.ensures in
    let found = subst (λ (es : List Entry). IsCountIn es c.args.i c.args.j c.count_in.result) c.deref.ensures c.count_in.ensures in
    triangles-count_in K (pair_of_class K k).0 (pair_of_class K k).1 c.args.i c.args.j c.count_in.result c.index.result.now.row.items (row_at_pair K k c.index.result.now d.1) found

pub returns-clause-everywhere : goal.returns-clause-everywhere
returns-clause-everywhere c = λ x y hx hy e.
    let K = c.args.self.now in
    let k = c.args.k in
    let d = kept_class _ K _ k c.index.result.now c.self.invariant c.self.view_is c.requires.class c.index.ensures in
    let found = subst (λ (es : List Entry). IsCountIn es c.args.i c.args.j c.count_in.result) c.deref.ensures c.count_in.ensures in
    triangles-count_in K x y c.args.i c.args.j c.count_in.result c.index.result.now.row.items (row_everywhere K k c.index.result.now d.0 d.1 x y hx hy e) found
