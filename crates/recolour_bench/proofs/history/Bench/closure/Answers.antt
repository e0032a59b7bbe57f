use Rattle.std.proofs.Common.{sym, ap, subst, ◌∙◌, arith}
use Rattle.pair_colours.specs.Closure.{IsClosureOf}
use Rattle.pair_colours.proofs.LawProofs.{named_closure_is_unique, closure_is_raw}
use Rattle.recolour_bench.specs.History.{Entry, present}
use Rattle.recolour_bench.proofs.Keeping.{low_from, IsPresentEntry-kept}
use Rattle.recolour_bench.proofs.history.Bench.closure.Goals as goal

pub index-requires : goal.index-requires
index-requires c = omega (arith, low_from c.self.inside.stages.items c.self.inside.kept.items c.self.inside.position c.self.invariant, c.self.invariant.lengths)

pub returns-clause-value : goal.returns-clause-value
returns-clause-value c =
    let here = IsPresentEntry-kept c.self.inside.stages.items c.self.inside.kept.items c.self.inside.position c.index.result.now c.self.invariant c.index.ensures in
    subst (IsClosureOf c.index.result.now.closure) (sym (ap (λ (a : Entry). a.colouring) here.is) ∙ ap present c.self.view_is) here.of.closure

pub returns-clause-only : goal.returns-clause-only
returns-clause-only c = λ K k.
    let here = IsPresentEntry-kept c.self.inside.stages.items c.self.inside.kept.items c.self.inside.position c.index.result.now c.self.invariant c.index.ensures in
    named_closure_is_unique _ K c.index.result.now.closure here.sound.raw.fits.colouring
    (subst (IsClosureOf K) (sym (sym (ap (λ (a : Entry). a.colouring) here.is) ∙ ap present c.self.view_is)) k) here.of.closure

pub returns-clause-within : goal.returns-clause-within
returns-clause-within c =
    let here = IsPresentEntry-kept c.self.inside.stages.items c.self.inside.kept.items c.self.inside.position c.index.result.now c.self.invariant c.index.ensures in
    closure_is_raw _ c.index.result.now.closure here.sound.raw here.of.closure
