use Rattle.std.proofs.Common.{◌≡◌, ◌<◌, ◌↔◌, IsTrue, All, sym, ap, subst, ◌∙◌, arith}
use Rattle.std.proofs.lemmas.Bool.{OnFalse_from}
use Rattle.pair_colours.specs.Colouring.{PairColouring}
use Rattle.pair_colours.specs.Naming.{rank_of}
use Rattle.trace_text.specs.declared.step_list.Step.{Step}
use Rattle.trace_text.specs.Split.{HasParts, numbers_of, split_of}
use Rattle.trace_text.specs.Versions.{HasStep}
use Rattle.split_cells.specs.Faults.{NamesBelow}
use Rattle.split_cells.specs.Kept.{shown_of}
use Rattle.split_cells.proofs.OneClassSteps.{one_class_inner}
use Rattle.split_cells.proofs.CellLemmas.{split_idle}
use Rattle.split_cells.proofs.Labelled.{few_classes, names_inner, rank_shown, IsColouring-shown, IsPartition-shown}
use Rattle.split_cells.proofs.cells.Cells.split.Goals as goal

pub inner_step-inner-requires-clause-names : goal.inner_step-inner-requires-clause-names
inner_step-inner-requires-clause-names c =
    let h = c.self.invariant.shown in
    λ i d l. omega (arith, c.requires.names i d l, ap rank_of c.self.view_is, rank_shown h, few_classes h, h.numbers.inverse.outer_len)

pub make_step-split-requires-clause-one_class : goal.make_step-split-requires-clause-one_class
make_step-split-requires-clause-one_class c =
    one_class_inner c.self.inside.labels.outer.items c.inner_step-inner.result (subst (HasStep 1) (sym c.inner_step-inner.ensures.shown) c.requires.one_class)

pub make_step-split-requires-clause-names : goal.make_step-split-requires-clause-names
make_step-split-requires-clause-names c =
    let h = c.self.invariant.shown in
    let step = c.inner_step-inner.result in
    let rank = c.self.inside.pairs.parting.rank in
    names_inner h step (subst (λ n. All (λ number. number < n) (numbers_of step)) h.numbers.inverse.outer_len c.inner_step-inner.ensures.names)
    (subst (λ (s : Step). NamesBelow rank s) (sym c.inner_step-inner.ensures.shown)
    (subst (λ r. NamesBelow r c.args.step) (sym (ap rank_of c.self.view_is) ∙ rank_shown h) c.requires.names))

pub returns-clause-parts : goal.returns-clause-parts
returns-clause-parts c =
    c.make_step-split.ensures.parts ∙ ap (split_of (shown_of c.self.inside.pairs c.self.inside.labels)) c.inner_step-inner.ensures.shown ∙ ap (λ (P : PairColouring). split_of P c.args.step) c.self.view_is

pub returns-clause-split : goal.returns-clause-split
returns-clause-split c =
    let P = shown_of c.self.inside.pairs c.self.inside.labels in
    let r = c.make_step-split.result in
    subst (λ (Q : PairColouring). IsTrue r ↔ HasParts Q c.args.step) c.self.view_is (subst (λ (s : Step). IsTrue r ↔ HasParts P s) c.inner_step-inner.ensures.shown c.make_step-split.ensures.split)

pub returns-clause-same : goal.returns-clause-same
returns-clause-same c =
    let P = shown_of c.self.inside.pairs c.self.inside.labels in
    let h = c.self.invariant.shown in
    let made = c.make_step-split.ensures in
    OnFalse_from c.make_step-split.result (shown_of c.make_step-split.new.pairs c.make_step-split.new.labels ≡ c.args.self.now) (λ e.
    let none : HasParts P c.args.step → ⊥ = λ some. let yes = made.split.1 (subst (λ (s : Step). HasParts P s) (sym c.inner_step-inner.ensures.shown) some) in cc in
    made.parts ∙ ap (split_of P) c.inner_step-inner.ensures.shown ∙ sym (split_idle P c.args.step (IsColouring-shown h) none) ∙ c.self.view_is)

pub returns-clause-within : goal.returns-clause-within
returns-clause-within c = IsPartition-shown c.make_step-split.ensures.shown
