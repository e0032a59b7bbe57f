use Rattle.std.proofs.Common.{◌<◌, [], ◌∷◌, All, length, get_or, sym, ap, subst, ◌∙◌, arith}
use Rattle.std.proofs.lemmas.List.{get_or_read}
use Rattle.trace_text.specs.declared.step_list.Step.{Step}
use Rattle.trace_text.specs.declared.step_list.Step.TheVariants.{Flip, Tri}
use Rattle.trace_text.specs.Split.{numbers_of}
use Rattle.split_cells.proofs.FaultSteps.{names_three}
use Rattle.split_cells.proofs.labels.Labels.inner_step.Goals as goal

pub returns-in-Flip-clause-shown : goal.returns-in-Flip-clause-shown
returns-in-Flip-clause-shown c =
    let self = c.args.self.now in
    let bound = length self.outer.items in
    let h = c.requires.inverse in
    let names : All (λ number. number < bound) (c.in-Flip.class ∷ c.in-Flip.other ∷ []) = subst (λ (s : Step). All (λ number. number < bound) (numbers_of s)) c.in-Flip.is c.requires.names in
    let lk : c.in-Flip.class < bound = names 0 0 (omega arith) in
    let lo : c.in-Flip.other < bound = names 1 0 (omega arith) in
    let k = get_or_read self.inner.items c.in-Flip.class c.index-in-Flip.result.now (omega (arith, lk, h.inner_len)) c.index-in-Flip.ensures 0 in
    let other = get_or_read self.inner.items c.in-Flip.other c.index-in-Flip-2.result.now (omega (arith, lo, h.inner_len)) c.index-in-Flip-2.ensures 0 in
    let a = ap (λ v. get_or self.outer.items v 0) k ∙ h.forth c.in-Flip.class lk in
    let b = ap (λ v. get_or self.outer.items v 0) other ∙ h.forth c.in-Flip.other lo in
    (λ i. Flip (a i) (b i)) ∙ sym c.in-Flip.is

pub returns-in-Tri-clause-names : goal.returns-in-Tri-clause-names
returns-in-Tri-clause-names c =
    let self = c.args.self.now in
    let bound = length self.outer.items in
    let h = c.requires.inverse in
    let names : All (λ number. number < bound) (c.in-Tri.class ∷ c.in-Tri.left ∷ c.in-Tri.right ∷ []) = subst (λ (s : Step). All (λ number. number < bound) (numbers_of s)) c.in-Tri.is c.requires.names in
    let lk : c.in-Tri.class < bound = names 0 0 (omega arith) in
    let ll : c.in-Tri.left < bound = names 1 0 (omega arith) in
    let lr : c.in-Tri.right < bound = names 2 0 (omega arith) in
    let k = get_or_read self.inner.items c.in-Tri.class c.index-in-Tri.result.now (omega (arith, lk, h.inner_len)) c.index-in-Tri.ensures 0 in
    let left = get_or_read self.inner.items c.in-Tri.left c.index-in-Tri-2.result.now (omega (arith, ll, h.inner_len)) c.index-in-Tri-2.ensures 0 in
    let right = get_or_read self.inner.items c.in-Tri.right c.index-in-Tri-3.result.now (omega (arith, lr, h.inner_len)) c.index-in-Tri-3.ensures 0 in
    names_three bound c.index-in-Tri.result.now c.index-in-Tri-2.result.now c.index-in-Tri-3.result.now
    (omega (arith, k, h.inner_in c.in-Tri.class lk)) (omega (arith, left, h.inner_in c.in-Tri.left ll)) (omega (arith, right, h.inner_in c.in-Tri.right lr))

pub returns-in-Tri-clause-shown : goal.returns-in-Tri-clause-shown
returns-in-Tri-clause-shown c =
    let self = c.args.self.now in
    let bound = length self.outer.items in
    let h = c.requires.inverse in
    let names : All (λ number. number < bound) (c.in-Tri.class ∷ c.in-Tri.left ∷ c.in-Tri.right ∷ []) = subst (λ (s : Step). All (λ number. number < bound) (numbers_of s)) c.in-Tri.is c.requires.names in
    let lk : c.in-Tri.class < bound = names 0 0 (omega arith) in
    let ll : c.in-Tri.left < bound = names 1 0 (omega arith) in
    let lr : c.in-Tri.right < bound = names 2 0 (omega arith) in
    let k = get_or_read self.inner.items c.in-Tri.class c.index-in-Tri.result.now (omega (arith, lk, h.inner_len)) c.index-in-Tri.ensures 0 in
    let left = get_or_read self.inner.items c.in-Tri.left c.index-in-Tri-2.result.now (omega (arith, ll, h.inner_len)) c.index-in-Tri-2.ensures 0 in
    let right = get_or_read self.inner.items c.in-Tri.right c.index-in-Tri-3.result.now (omega (arith, lr, h.inner_len)) c.index-in-Tri-3.ensures 0 in
    let a = ap (λ v. get_or self.outer.items v 0) k ∙ h.forth c.in-Tri.class lk in
    let b = ap (λ v. get_or self.outer.items v 0) left ∙ h.forth c.in-Tri.left ll in
    let d = ap (λ v. get_or self.outer.items v 0) right ∙ h.forth c.in-Tri.right lr in
    (λ i. Tri (a i) (b i) (d i)) ∙ sym c.in-Tri.is
