use Rattle.std.proofs.Common.{Option, sym, subst}
use Rattle.std.specs.Prelude.{option_copied}
use Rattle.std.proofs.lemmas.Result.{IfOk-weaker}
use Rattle.pair_colours.specs.Colouring.{PairColouring}
use Rattle.trace_text.specs.Chains.{stage_start}
use Rattle.wl_refine.specs.Closed.{IsReached}
use Rattle.recolour_bench.proofs.OwnClosures.{stage_start-itself}
use Rattle.recolour_bench.proofs.chaining.closed_after.Goals as goal

-- no step leads from a closure
pub returns-then-is_own_closure-clause-reached : goal.returns-then-is_own_closure-clause-reached
returns-then-is_own_closure-clause-reached c =
    let R = c.args.raw.now in
    let last : Option PairColouring = option_copied c.args.last in
    let start = stage_start-itself last R (c.requires.closed c.if-is_own_closure.true) c.requires.sizes c.requires.forced in
    IfOk-weaker c.itself.result (IsReached R) (IsReached (stage_start last R)) (λ closed r. subst (λ (P : PairColouring). IsReached P closed) (sym start) r) c.itself.ensures.reached
