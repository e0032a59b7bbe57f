use Rattle.std.proofs.Common.{◌≡◌, sym, ap, subst, ◌∙◌}
use Rattle.std.specs.Prelude.{Option, IfSome}
use Rattle.pair_colours.specs.Colouring.{PairColouring}
use Rattle.pair_colours.specs.Naming.{named_of}
use Rattle.trace_text.specs.Chains.{stage_start}
use Rattle.trace_text.proofs.Starts.{named_of-stage_start}
use Rattle.wl_refine.proofs.RoundedStages.{rounded_none, rounded_stage, rounded_more, rounded_all, colouring_at, next_starts}
use Rattle.wl_refine.proofs.round_chains.rounds.Goals as goal

pub loop-stage-init : goal.loop-stage-init
loop-stage-init c = rounded_none c.args.stages.now c.new-chain.result c.requires.following c.new-chain.ensures

pub start_of-requires : goal.start_of-requires
start_of-requires c =
    let stages = c.args.stages.now in
    let i = c.loop-stage.stage-index in
    let stage = c.stage-item.result in
    let colouring = colouring_at stages i stage c.loop-stage-test.true c.stage-item.is c.requires.colourings in
    let starts = next_starts stages i c.loop-stage.chain c.loop-stage.last stage c.loop-stage-test.true c.stage-item.is c.loop-stage.invariant colouring in
    record { sizes = subst (λ (o : Option PairColouring). IfSome o (λ P. stage.colours.size ≡ P.size)) (sym c.as_ref.ensures.value) starts.sizes_before }

pub rounds_from-requires-clause-colouring : goal.rounds_from-requires-clause-colouring
rounds_from-requires-clause-colouring c = c.in_ok-start.ensures.partition.colouring

pub rounds_from-requires-clause-named : goal.rounds_from-requires-clause-named
rounds_from-requires-clause-named c =
    let stages = c.args.stages.now in
    let i = c.loop-stage.stage-index in
    let stage = c.stage-item.result in
    let colouring = colouring_at stages i stage c.loop-stage-test.true c.stage-item.is c.requires.colourings in
    let starts = next_starts stages i c.loop-stage.chain c.loop-stage.last stage c.loop-stage-test.true c.stage-item.is c.loop-stage.invariant colouring in
    let start = c.in_ok-start.ensures.start ∙ ap (λ (o : Option PairColouring). stage_start o stage.colours) c.as_ref.ensures.value in
    subst (λ A. named_of A ≡ A) (sym start) (named_of-stage_start c.loop-stage.last stage.colours colouring starts.sizes_before)

pub loop-stage-preserved : goal.loop-stage-preserved
loop-stage-preserved c =
    let stages = c.args.stages.now in
    let i = c.loop-stage.stage-index in
    let stage = c.stage-item.result in
    let colouring = colouring_at stages i stage c.loop-stage-test.true c.stage-item.is c.requires.colourings in
    let start = c.in_ok-start.ensures.start ∙ ap (λ (o : Option PairColouring). stage_start o stage.colours) c.as_ref.ensures.value in
    rounded_more stages i c.loop-stage.chain c.push.new.self c.loop-stage.last stage _ c.in_ok-rounds.rounds.last c.loop-stage-test.true c.stage-item.is c.loop-stage.invariant colouring
    (rounded_stage c.loop-stage.last stage c.in_ok-rounds.rounds.steps c.in_ok-start.start c.in_ok-colours.colours c.in_ok-rounds.rounds.last start c.in_ok-colours.ensures.copy c.in_ok-rounds.ensures.rounds c.in_ok-rounds.ensures.last
    c.in_ok-rounds.ensures.colouring c.in_ok-rounds.ensures.named)
    c.in_ok-push.ensures.ok

pub returns : goal.returns
returns c = rounded_all c.args.stages.now c.loop-stage.stage-index c.loop-stage.chain c.loop-stage.last c.loop-stage-test.false c.loop-stage.invariant
