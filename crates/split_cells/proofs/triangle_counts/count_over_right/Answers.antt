use Rattle.std.proofs.Common.{◌/◌, ◌%◌, get_or, subst, ◌∙◌, arith}
use Rattle.split_cells.specs.Sides.{IsColumnCounted}
use Rattle.split_cells.proofs.CellLemmas.{few_pairs}
use Rattle.split_cells.proofs.SecondSides.{IsCountedTo-start, IsCountedTo-few, IsCountedTo-more, IsCountedTo-end}
use Rattle.split_cells.proofs.triangle_counts.count_over_right.Goals as goal

pub loop-p-init : goal.loop-p-init
loop-p-init c =
    let h = c.requires.classed in
    IsCountedTo-start c.args.pairs.now.size c.args.t c.members-p-items.ensures.members (h.parting.classes ∙ h.bound) c.args.tally.now.counts c.requires.blank

pub count_column-requires-clause-few : goal.count_column-requires-clause-few
count_column-requires-clause-few c =
    let h = c.requires.classed in
    IsCountedTo-few c.args.pairs.now.size c.args.t c.members-p-items.ensures.members (h.parting.classes ∙ h.bound) c.loop-p.p-index c.loop-p.tally.counts (few_pairs c.args.pairs.now.size h.limit) c.loop-p.invariant

pub loop-p-preserved : goal.loop-p-preserved
loop-p-preserved c =
    let pairs = c.args.pairs.now in
    let n = pairs.size in
    let h = c.requires.classed in
    let a = c.loop-p.p-index in
    let p = get_or c.members-p-items.result.now a 0 in
    let step : IsColumnCounted n pairs.turned.items c.args.t (p / n) (p % n) c.loop-p.tally.counts c.count_column.new.tally.counts =
    subst (λ z. IsColumnCounted n pairs.turned.items c.args.t z (p % n) c.loop-p.tally.counts c.count_column.new.tally.counts) c.first.ensures
    (subst (λ y. IsColumnCounted n pairs.turned.items c.args.t c.first.result y c.loop-p.tally.counts c.count_column.new.tally.counts) c.second.ensures c.count_column.ensures) in
    IsCountedTo-more n c.args.t c.members-p-items.ensures.members (h.parting.classes ∙ h.bound) pairs.turned.items h.turned a p c.loop-p.tally.counts c.count_column.new.tally.counts
    c.loop-p-test.true (λ i. p) step c.loop-p.invariant

pub returns : goal.returns
returns c =
    let h = c.requires.classed in
    IsCountedTo-end c.args.pairs.now.size c.args.t c.members-p-items.ensures.members (h.parting.classes ∙ h.bound) c.loop-p.p-index c.loop-p.tally.counts (omega (arith, c.loop-p-test.false)) c.loop-p.invariant
