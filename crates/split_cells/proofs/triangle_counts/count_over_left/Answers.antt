use Rattle.std.proofs.Common.{◌/◌, ◌%◌, get_or, sym, subst, ◌∙◌, arith}
use Rattle.split_cells.specs.Counts.{Counts}
use Rattle.split_cells.specs.Sides.{IsRowCounted}
use Rattle.split_cells.proofs.CellLemmas.{few_pairs}
use Rattle.split_cells.proofs.FirstSides.{IsCountedTo-start, IsCountedTo-few, IsCountedTo-more, IsCountedTo-end}
use Rattle.split_cells.proofs.triangle_counts.count_over_left.Goals as goal
use Rattle.split_cells.proofs.triangle_counts.count_over_left.Goals.{then-few, else-few}

pub loop-p-init : goal.loop-p-init
loop-p-init c =
    let h = c.requires.classed in
    IsCountedTo-start c.args.pairs.now.size c.args.t c.members-p-items.ensures.members (h.parting.classes ∙ h.bound) c.args.tally.now.counts c.requires.blank

pub count_right_sides-requires-clause-few : goal.count_right_sides-requires-clause-few
count_right_sides-requires-clause-few c =
    let h = c.requires.classed in
    IsCountedTo-few c.args.pairs.now.size c.args.t c.members-p-items.ensures.members (h.parting.classes ∙ h.bound) c.loop-p.p-index c.loop-p.tally.counts (few_pairs c.args.pairs.now.size h.limit) c.loop-p.invariant

pub count_row-requires-clause-few : goal.count_row-requires-clause-few
count_row-requires-clause-few c =
    let h = c.requires.classed in
    IsCountedTo-few c.args.pairs.now.size c.args.t c.members-p-items.ensures.members (h.parting.classes ∙ h.bound) c.loop-p.p-index c.loop-p.tally.counts (few_pairs c.args.pairs.now.size h.limit) c.loop-p.invariant

pub loop-p-preserved : goal.loop-p-preserved
loop-p-preserved c =
    let pairs = c.args.pairs.now in
    let n = pairs.size in
    let class = pairs.parting.class.items in
    let h = c.requires.classed in
    let a = c.loop-p.p-index in
    let p = get_or c.members-p-items.result.now a 0 in
    let old = c.loop-p.tally.counts in
    let new = c.if-few.tally in
    let at_points = λ (r : Counts) (e : IsRowCounted n class c.args.t c.first-x.result c.second-z.result old r.counts).
    subst (λ x. IsRowCounted n class c.args.t x (p % n) old r.counts) c.first-x.ensures (subst (λ z. IsRowCounted n class c.args.t c.first-x.result z old r.counts) c.second-z.ensures e) in
    let step : IsRowCounted n class c.args.t (p / n) (p % n) old new.counts = elim c.if-few.branch [
      | then-few w ↦ subst (λ (r : Counts). IsRowCounted n class c.args.t (p / n) (p % n) old r.counts) (sym w.tally-is) (at_points w.count_right_sides.new.tally w.count_right_sides.ensures)
      | else-few w ↦ subst (λ (r : Counts). IsRowCounted n class c.args.t (p / n) (p % n) old r.counts) (sym w.tally-is) (at_points w.count_row.new.tally w.count_row.ensures)
    ] in
    IsCountedTo-more n c.args.t c.members-p-items.ensures.members (h.parting.classes ∙ h.bound) a p old new.counts c.loop-p-test.true (λ i. p) step c.loop-p.invariant

pub returns : goal.returns
returns c =
    let h = c.requires.classed in
    IsCountedTo-end c.args.pairs.now.size c.args.t c.members-p-items.ensures.members (h.parting.classes ∙ h.bound) c.loop-p.p-index c.loop-p.tally.counts (omega (arith, c.loop-p-test.false)) c.loop-p.invariant
