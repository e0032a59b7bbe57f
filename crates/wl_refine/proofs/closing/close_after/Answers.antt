use Rattle.std.proofs.Common.{Option, subst, ◌∙◌}
use Rattle.std.specs.Prelude.{option_copied}
use Rattle.std.proofs.lemmas.Result.{IfOk-weaker}
use Rattle.pair_colours.specs.Colouring.{PairColouring}
use Rattle.pair_colours.specs.Closure.{IsClosureOf}
use Rattle.trace_text.specs.Chains.{stage_start}
use Rattle.wl_refine.specs.Closed.{IsReached}
use Rattle.wl_refine.proofs.Reached.{IsBetween-stage_start, IsClosureOf-reached}
use Rattle.wl_refine.proofs.closing.close_after.Goals as goal

pub returns-clause-closure : goal.returns-clause-closure
returns-clause-closure c =
    let C = c.args.raw.now in
    let last : Option PairColouring = option_copied c.args.last in
    let start = c.in_ok-cells.ensures ∙ c.in_ok-start.ensures.start in
    IfOk-weaker c.reached.result (IsReached c.in_ok-cells.cells) (λ closed. IsClosureOf closed.matrix C)
    (λ closed r. IsClosureOf-reached C (stage_start last C) closed (IsBetween-stage_start last C c.size-size.ensures.within.colouring c.requires.sizes c.requires.forced) (subst (λ (P : PairColouring). IsReached P closed) start r))
    c.reached.ensures

pub returns-clause-reached : goal.returns-clause-reached
returns-clause-reached c =
    let start = c.in_ok-cells.ensures ∙ c.in_ok-start.ensures.start in
    IfOk-weaker c.reached.result (IsReached c.in_ok-cells.cells) (IsReached (stage_start (option_copied c.args.last) c.args.raw.now))
    (λ closed r. subst (λ (P : PairColouring). IsReached P closed) start r) c.reached.ensures
