use Rattle.std.proofs.Common.{◌<◌, [], ◌∷◌, All, length, sym, ap, subst, ◌∙◌, arith}
use Rattle.std.proofs.lemmas.List.{get_or_read}
use Rattle.trace_text.specs.declared.step_list.Step.{Step}
use Rattle.trace_text.specs.declared.step_list.Step.TheVariants.{Tri}
use Rattle.trace_text.specs.Split.{numbers_of}
use Rattle.split_cells.specs.Labels.{step_shown_by}
use Rattle.split_cells.proofs.labels.Labels.shown_step.Goals as goal

pub returns-in-Tri : goal.returns-in-Tri
returns-in-Tri c =
    let outer = c.args.self.now.outer.items in
    let bound = length outer in
    let names : All (λ number. number < bound) (c.in-Tri.class ∷ c.in-Tri.left ∷ c.in-Tri.right ∷ []) = subst (λ (s : Step). All (λ number. number < bound) (numbers_of s)) c.in-Tri.is c.requires in
    let k = get_or_read outer c.in-Tri.class c.index-in-Tri.result.now (names 0 0 (omega arith)) c.index-in-Tri.ensures 0 in
    let left = get_or_read outer c.in-Tri.left c.index-in-Tri-2.result.now (names 1 0 (omega arith)) c.index-in-Tri-2.ensures 0 in
    let right = get_or_read outer c.in-Tri.right c.index-in-Tri-3.result.now (names 2 0 (omega arith)) c.index-in-Tri-3.ensures 0 in
    (λ i. Tri (k i) (left i) (right i)) ∙ ap (step_shown_by outer) (sym c.in-Tri.is)
