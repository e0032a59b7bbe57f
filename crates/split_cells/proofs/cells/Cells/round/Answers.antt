use Rattle.std.proofs.Common.{sym, subst, ◌∙◌, arith}
use Rattle.std.proofs.lemmas.Bool.{lt-ltb, ltb-true}
use Rattle.pair_colours.specs.Colouring.{PairColouring}
use Rattle.trace_text.specs.Partition.{IsPartition}
use Rattle.trace_text.specs.declared.step_list.Step.TheVariants.{Round}
use Rattle.trace_text.proofs.Splits.{IsPartition-split_of}
use Rattle.split_cells.proofs.RoundSplits.{parts_where_grown, grown_where_parts, same_where_idle}
use Rattle.split_cells.proofs.cells.Cells.round.Goals as goal
use Rattle.split_cells.proofs.cells.Cells.round.Goals.{then-split, else-split}

pub returns-clause-parts : goal.returns-clause-parts
returns-clause-parts c =
    let P = c.args.self.now in
    let Q = c.in_ok-cells.cells in
    let is = c.in_ok-cells.ensures.parts in
    let within = c.in_ok-cells.ensures.within in
    elim c.if-split.branch [
      | then-split w ↦ w.self-is ∙ w.swap.ensures.x_after ∙ is
      | else-split w ↦ w.self-is ∙ same_where_idle P Q within is (omega (arith, w.if-split.false, c.rank.ensures.rank, c.rank-2.ensures.rank))
    ]

pub returns-clause-split : goal.returns-clause-split
returns-clause-split c =
    let P = c.args.self.now in
    let Q = c.in_ok-cells.cells in
    let is = c.in_ok-cells.ensures.parts in
    let within = c.in_ok-cells.ensures.within in (
      λ grown. parts_where_grown P Q within is (omega (arith, ltb-true _ _ grown, c.rank.ensures.rank, c.rank-2.ensures.rank)),
      λ parts. lt-ltb _ _ (omega (arith, grown_where_parts P Q within is parts, c.rank.ensures.rank, c.rank-2.ensures.rank)),
    )

pub returns-clause-within : goal.returns-clause-within
returns-clause-within c =
    let P = c.args.self.now in
    let within = c.in_ok-cells.ensures.within in
    elim c.if-split.branch [
      | then-split w ↦ subst (λ (A : PairColouring). IsPartition A) (sym (w.self-is ∙ w.swap.ensures.x_after ∙ c.in_ok-cells.ensures.parts)) (IsPartition-split_of P Round within)
      | else-split w ↦ subst (λ (A : PairColouring). IsPartition A) (sym w.self-is) within
    ]
