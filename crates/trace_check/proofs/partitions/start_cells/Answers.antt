use Rattle.std.proofs.Common.{◌≡◌, sym, ap, subst, ◌∙◌}
use Rattle.std.specs.Prelude.{Option, IfSome, option_copied}
use Rattle.std.proofs.lemmas.Result.{IfOk-weaker}
use Rattle.pair_colours.specs.Colouring.{PairColouring}
use Rattle.trace_text.specs.Chains.{stage_start}
use Rattle.trace_check.proofs.partitions.start_cells.Goals as goal

pub start_of-requires : goal.start_of-requires
start_of-requires c =
    record { sizes = subst (λ (o : Option PairColouring). IfSome o (λ P. c.args.colours.now.size ≡ P.size)) (sym (c.as_ref.ensures.value ∙ c.in_ok-partition.ensures)) c.requires }

pub returns : goal.returns
returns c =
    let C = c.args.colours.now in
    let is : c.in_ok-start.start ≡ stage_start (option_copied c.args.last) C =
    c.in_ok-start.ensures.start ∙ ap (λ (o : Option PairColouring). stage_start o C) (c.as_ref.ensures.value ∙ c.in_ok-partition.ensures) in
    IfOk-weaker c.of.result (λ cells. cells ≡ c.in_ok-start.start) (λ cells. cells ≡ stage_start (option_copied c.args.last) C) (λ cells e. e ∙ is) c.of.ensures
