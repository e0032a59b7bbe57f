use Rattle.std.proofs.Common.{length, ap, sym, subst, arith}
use Rattle.std.specs.List.{AllByRecursion}
use Rattle.trace_text.specs.Split.{IsAllowed, NamesClasses}
use Rattle.trace_text.specs.Versions.{HasStep}
use Rattle.wl_refine.specs.Way.{Walked, LeadsOn}
use Rattle.wl_refine.proofs.Leading.{leads_on_step, more_classes, fewer_steps, one_class_more}
use Rattle.wl_refine.proofs.ways.Way.make.Goals as goal

pub invariant_of-self : goal.invariant_of-self
invariant_of-self c =
    let names = subst (λ (w : Walked). NamesClasses w.cells c.args.step) (sym c.self.view_is) c.requires.names in
    let allowed : IsAllowed c.self.inside.cells c.args.step = record { names = names; parts = c.split-split.ensures.split.0 c.if-split.true } in
    let grows = more_classes c.self.inside.cells c.split-split.new.self c.args.step c.rank-before.ensures.within allowed c.split-split.ensures.parts in (
      fewer_steps c.self.inside.steps c.push.new.self c.args.step _ _ c.self.invariant.0 grows c.in_ok-push.ensures.ok,
      one_class_more c.self.inside.steps c.push.new.self c.args.step c.self.invariant.1 c.requires.one_class c.in_ok-push.ensures.ok,
    )

pub invariant_of-self-in_err-push : goal.invariant_of-self-in_err-push
invariant_of-self-in_err-push c =
    let names = subst (λ (w : Walked). NamesClasses w.cells c.args.step) (sym c.self.view_is) c.requires.names in
    let allowed : IsAllowed c.self.inside.cells c.args.step = record { names = names; parts = c.split-split.ensures.split.0 c.if-split.true } in
    let grows = more_classes c.self.inside.cells c.split-split.new.self c.args.step c.rank-before.ensures.within allowed c.split-split.ensures.parts in
    (omega (arith, c.self.invariant.0, grows, ap length c.in_err-push.ensures.err), subst (AllByRecursion (HasStep 1)) (sym c.in_err-push.ensures.err) c.self.invariant.1)

pub returns-in_ok-push-clause-on : goal.returns-in_ok-push-clause-on
returns-in_ok-push-clause-on c =
    let names = subst (λ (w : Walked). NamesClasses w.cells c.args.step) (sym c.self.view_is) c.requires.names in
    let allowed : IsAllowed c.self.inside.cells c.args.step = record { names = names; parts = c.split-split.ensures.split.0 c.if-split.true } in
    let new : Walked = record { steps = c.push.new.self; cells = c.split-split.new.self } in
    subst (λ (w : Walked). LeadsOn w new) c.self.view_is
    (leads_on_step (record { steps = c.self.inside.steps; cells = c.self.inside.cells }) new c.args.step allowed c.split-split.ensures.parts c.in_ok-push.ensures.ok)
