use Rattle.std.proofs.Common.{◌≡◌, ◌+◌, length, inl, inr, refl, sym, ap, subst, ◌∙◌, arith}
use Rattle.std.proofs.lemmas.List.FromFn.{length-map-range_with_len}
use Rattle.recolour_bench.specs.declared.edits.EditFault.TheVariants.{NothingToRedo}
use Rattle.recolour_bench.specs.History.{History}
use Rattle.recolour_bench.specs.Kept.{entry_kept, history_of}
use Rattle.recolour_bench.specs.Steps.{RedoStep}
use Rattle.recolour_bench.proofs.Keeping.{low_from, IsKeptHistory-moved, RedoStep-kept}
use Rattle.recolour_bench.proofs.history.Bench.redo.Goals as goal

pub returns-then-self-len-clause-refused : goal.returns-then-self-len-clause-refused
returns-then-self-len-clause-refused c =
    let sizes : length c.args.self.now.entries ≡ length c.self.inside.stages.items = ap (λ (h : History). length h.entries) (sym c.self.view_is) ∙ length-map-range_with_len (entry_kept c.self.inside.stages.items c.self.inside.kept.items) 0 (length c.self.inside.stages.items) in
    let place : c.args.self.now.position ≡ c.self.inside.position = ap (λ (h : History). h.position) (sym c.self.view_is) in
    (refl, omega (arith, sizes, place, c.if-self-len.true, c.len.ensures))

pub returns-then-self-len-clause-step : goal.returns-then-self-len-clause-step
returns-then-self-len-clause-step c = inr (record { fault = NothingToRedo; refused = returns-then-self-len-clause-refused c; same = refl })

pub invariant_of-self : goal.invariant_of-self
invariant_of-self c =
    IsKeptHistory-moved c.self.inside.stages.items c.self.inside.kept.items c.self.inside.position (c.self.inside.position + 1) c.self.invariant
    (omega (arith, c.if-self-len.false, c.len.ensures, low_from c.self.inside.stages.items c.self.inside.kept.items c.self.inside.position c.self.invariant))

pub returns-clause-accepted : goal.returns-clause-accepted
returns-clause-accepted c =
    subst (λ (h : History). RedoStep h (history_of c.self.inside.stages.items c.self.inside.kept.items (c.self.inside.position + 1))) c.self.view_is
    (RedoStep-kept c.self.inside.stages.items c.self.inside.kept.items c.self.inside.position (omega (arith, c.if-self-len.false, c.len.ensures, low_from c.self.inside.stages.items c.self.inside.kept.items c.self.inside.position c.self.invariant)))

pub returns-clause-step : goal.returns-clause-step
returns-clause-step c = inl (returns-clause-accepted c)

pub returns-clause-within : goal.returns-clause-within
returns-clause-within c = (invariant_of-self c).history
