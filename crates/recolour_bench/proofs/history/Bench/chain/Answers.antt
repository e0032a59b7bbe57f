use Rattle.std.proofs.Common.{◌+◌, length, take, drop, All, None, sym, ap, subst, ◌∙◌, arith}
use Rattle.pair_colours.specs.Colouring.{IsColouring}
use Rattle.trace_text.specs.RoundChains.{AreFollowing}
use Rattle.recolour_bench.specs.History.{Entry, present_chain}
use Rattle.recolour_bench.proofs.Chains.{IsRawStage, colourings-sound, following-sound}
use Rattle.recolour_bench.proofs.Keeping.{low_from, IsPresentEntry-kept}
use Rattle.recolour_bench.proofs.history.Bench.chain.Goals as goal

pub index-requires : goal.index-requires
index-requires c = omega (arith, low_from c.self.inside.stages.items c.self.inside.kept.items c.self.inside.position c.self.invariant, c.self.invariant.lengths)

pub stages_from-requires-clause-start : goal.stages_from-requires-clause-start
stages_from-requires-clause-start c = omega (arith, (IsPresentEntry-kept c.self.inside.stages.items c.self.inside.kept.items c.self.inside.position c.index.result.now c.self.invariant c.index.ensures).start)

pub stages_from-requires-clause-end : goal.stages_from-requires-clause-end
stages_from-requires-clause-end c = omega (arith, low_from c.self.inside.stages.items c.self.inside.kept.items c.self.inside.position c.self.invariant, ap length c.deref.ensures.value)

pub returns-clause-value : goal.returns-clause-value
returns-clause-value c =
    c.stages_from.ensures ∙ ap (λ stages. drop c.index.result.now.start (take (c.self.inside.position + 1) stages)) c.deref.ensures.value
    ∙ sym (ap (λ (a : Entry). a.chain) (IsPresentEntry-kept c.self.inside.stages.items c.self.inside.kept.items c.self.inside.position c.index.result.now c.self.invariant c.index.ensures).is) ∙ ap present_chain c.self.view_is

pub returns-clause-within : goal.returns-clause-within
returns-clause-within c =
    subst (All IsRawStage) (sym (c.stages_from.ensures ∙ ap (λ stages. drop c.index.result.now.start (take (c.self.inside.position + 1) stages)) c.deref.ensures.value))
    (IsPresentEntry-kept c.self.inside.stages.items c.self.inside.kept.items c.self.inside.position c.index.result.now c.self.invariant c.index.ensures).sound.colours

pub returns-clause-colourings : goal.returns-clause-colourings
returns-clause-colourings c =
    subst (All (λ stage. IsColouring stage.colours)) (sym (c.stages_from.ensures ∙ ap (λ stages. drop c.index.result.now.start (take (c.self.inside.position + 1) stages)) c.deref.ensures.value))
    (colourings-sound _ _ (IsPresentEntry-kept c.self.inside.stages.items c.self.inside.kept.items c.self.inside.position c.index.result.now c.self.invariant c.index.ensures).sound)

pub returns-clause-following : goal.returns-clause-following
returns-clause-following c =
    subst (AreFollowing None) (sym (c.stages_from.ensures ∙ ap (λ stages. drop c.index.result.now.start (take (c.self.inside.position + 1) stages)) c.deref.ensures.value))
    (following-sound _ _ (IsPresentEntry-kept c.self.inside.stages.items c.self.inside.kept.items c.self.inside.position c.index.result.now c.self.invariant c.index.ensures).sound)
