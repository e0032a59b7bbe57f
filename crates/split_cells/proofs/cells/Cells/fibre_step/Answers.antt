use Rattle.std.proofs.Common.{◌<◌, ap, arith}
use Rattle.std.proofs.lemmas.List.{get_or_read}
use Rattle.pair_colours.specs.Naming.{rank_of}
use Rattle.split_cells.proofs.Labelled.{few_classes, rank_shown, inner_low}
use Rattle.split_cells.proofs.cells.Cells.fibre_step.Goals as goal

pub index-inner-requires : goal.index-inner-requires
index-inner-requires c =
    let h = c.self.invariant.shown in
    omega (arith, c.requires, ap rank_of c.self.view_is, rank_shown h, few_classes h, h.numbers.inverse.inner_len, c.self.inside.labels.inner.ok.0)

pub fibre_step-requires-clause-class : goal.fibre_step-requires-clause-class
fibre_step-requires-clause-class c =
    let h = c.self.invariant.shown in
    let k : c.args.k < c.self.inside.pairs.parting.rank = omega (arith, c.requires, ap rank_of c.self.view_is, rank_shown h) in
    let inner = c.self.inside.labels.inner.items in
    let is = get_or_read inner c.args.k c.index-inner.result.now (omega (arith, k, few_classes h, h.numbers.inverse.inner_len)) c.index-inner.ensures 0 in
    omega (arith, is, inner_low h c.args.k k)
