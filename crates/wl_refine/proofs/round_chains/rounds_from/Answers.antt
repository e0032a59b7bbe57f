use Rattle.std.proofs.Common.{sym, ◌∙◌}
use Rattle.std.proofs.lemmas.Bool.{false≢true}
use Rattle.wl_refine.proofs.MadeRounds.{IsPartition-named, colours_below, made_none, made_more, made_all, made_end, round_adds, few_made}
use Rattle.wl_refine.proofs.round_chains.rounds_from.Goals as goal

pub loop-steps-init : goal.loop-steps-init
loop-steps-init c = made_none c.args.start c.new-steps.result c.requires.colouring c.requires.named c.new-steps.ensures

pub round_of-requires : goal.round_of-requires
round_of-requires c = colours_below c.loop-steps.last (IsPartition-named c.loop-steps.last c.loop-steps.invariant.colouring c.loop-steps.invariant.named)

pub push-requires : goal.push-requires
push-requires c =
    few_made c.args.start c.loop-steps.steps c.loop-steps.last (IsPartition-named c.args.start c.requires.colouring c.requires.named) c.loop-steps.invariant c.have_same_colours-same.ensures.within.limit

pub returns-then-same-clause-rounds : goal.returns-then-same-clause-rounds
returns-then-same-clause-rounds c =
    made_all c.args.start c.loop-steps.steps c.loop-steps.last c.in_ok-round.round (IsPartition-named c.args.start c.requires.colouring c.requires.named) c.loop-steps.invariant
    c.in_ok-round.ensures.round c.in_ok-round.ensures.named (c.have_same_colours-same.ensures.same.0 c.if-same.true)

pub returns-then-same-clause-last : goal.returns-then-same-clause-last
returns-then-same-clause-last c = made_end c.args.start c.loop-steps.steps c.loop-steps.last c.loop-steps.invariant

pub loop-steps-smaller : goal.loop-steps-smaller
loop-steps-smaller c =
    round_adds c.args.start c.loop-steps.steps c.loop-steps.last c.in_ok-round.round c.loop-steps.invariant
    c.in_ok-round.ensures.round c.in_ok-round.ensures.named (λ e. false≢true (sym c.if-same.false ∙ c.have_same_colours-same.ensures.same.1 e))

pub loop-steps-preserved : goal.loop-steps-preserved
loop-steps-preserved c =
    made_more c.args.start c.loop-steps.steps c.push.new.self c.loop-steps.last c.in_ok-round.round (IsPartition-named c.args.start c.requires.colouring c.requires.named)
    c.loop-steps.invariant c.in_ok-round.ensures.round c.in_ok-round.ensures.named (λ e. false≢true (sym c.if-same.false ∙ c.have_same_colours-same.ensures.same.1 e)) c.in_ok-push.ensures.ok
