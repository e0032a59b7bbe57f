use Rattle.std.proofs.Common.{◌≡◌, ℕ, ◌<◌, length, get_or, sym, ap, subst, ◌∙◌}
use Rattle.pair_colours.specs.Colouring.{PairColouring}
use Rattle.trace_text.specs.Partition.{IsPartition}
use Rattle.trace_text.specs.declared.step_list.Step.TheVariants.{Round}
use Rattle.trace_text.specs.Split.{split_of}
use Rattle.trace_text.proofs.Splits.{IsPartition-split_of}
use Rattle.std.proofs.lemmas.Result.{IfOk-weaker}
use Rattle.split_cells.proofs.RoundSplits.{colours_below}
use Rattle.split_cells.proofs.cells.Cells.after_round.Goals as goal

pub round_of-requires : goal.round_of-requires
round_of-requires c =
    let same = c.in_ok-partition.ensures in
    subst (λ (P : PairColouring). (p : ℕ) → p < length P.colours → get_or P.colours p 0 < length P.colours) (sym same.classes) (colours_below c.args.self.now same.within)

pub of-requires : goal.of-requires
of-requires c =
    let same = c.in_ok-partition.ensures in
    let P = c.args.self.now in
    let is : c.in_ok-parted.parted ≡ split_of P Round = c.in_ok-parted.ensures ∙ ap (λ (A : PairColouring). split_of A Round) same.classes in
    subst (λ (A : PairColouring). IsPartition A) (sym is) (IsPartition-split_of P Round same.within)

pub returns-clause-parts : goal.returns-clause-parts
returns-clause-parts c =
    let is = c.in_ok-parted.ensures ∙ ap (λ (A : PairColouring). split_of A Round) c.in_ok-partition.ensures.classes in
    IfOk-weaker c.of.result (λ cells. cells ≡ c.in_ok-parted.parted) (λ cells. cells ≡ split_of c.args.self.now Round) (λ cells e. e ∙ is) c.of.ensures
