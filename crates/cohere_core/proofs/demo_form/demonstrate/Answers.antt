use Rattle.std.proofs.Common.{◌∙◌, [], List, sym, subst}
use Rattle.script_text.specs.declared.acts.Line.{Line}
use Rattle.cohere_core.specs.declared.answering.SessionFault.TheVariants.{SinkFailed, NoMemory}
use Rattle.cohere_core.specs.Added.{AddsUntil}
use Rattle.cohere_core.specs.Answer.{KeepLimits}
use Rattle.cohere_core.specs.DemoForm.{DemoOutput}
use Rattle.cohere_core.specs.Products.{AreProducts}
use Rattle.cohere_core.proofs.DemoOutputs.{answers_alone, demo_lines_keep, demo_products, first_line_is, is_answered, is_begun, nothing_of_demo, part_of_answers, part_of_head, part_of_last, whole_demo}
use Rattle.cohere_core.proofs.Runs.{at_fault}
use Rattle.cohere_core.proofs.demo_form.demonstrate.Goals as goal

pub returns-in_err-relation-clause-front : goal.returns-in_err-relation-clause-front
returns-in_err-relation-clause-front g c =
    at_fault (λ fault. AddsUntil fault (DemoOutput c.args.number) _ _) c.from_residual.result NoMemory c.from_residual.ensures.1 (nothing_of_demo c.args.number _)

pub returns-in_err-lines-clause-front : goal.returns-in_err-lines-clause-front
returns-in_err-lines-clause-front g c =
    at_fault (λ fault. AddsUntil fault (DemoOutput c.args.number) _ _) c.from_residual-in_err-lines.result NoMemory c.from_residual-in_err-lines.ensures.1 (nothing_of_demo c.args.number _)

pub returns-in_err-head-clause-front : goal.returns-in_err-head-clause-front
returns-in_err-head-clause-front g c =
    at_fault (λ fault. AddsUntil fault (DemoOutput c.args.number) _ _) c.from_residual-in_err-head.result NoMemory c.from_residual-in_err-head.ensures.1 (nothing_of_demo c.args.number _)

pub returns-in_err-bench-clause-front : goal.returns-in_err-bench-clause-front
returns-in_err-bench-clause-front g c =
    at_fault (λ fault. AddsUntil fault (DemoOutput c.args.number) _ _) c.from_residual-in_err-bench.result NoMemory c.from_residual-in_err-bench.ensures.1 (nothing_of_demo c.args.number _)

pub returns-in_err-put_all-clause-front : goal.returns-in_err-put_all-clause-front
returns-in_err-put_all-clause-front g c =
    let first = first_line_is c.args.number c.size.result c.in_ok-relation.relation c.deref.result.now c.in_ok-head.head.items c.in_ok-relation.ensures.demo c.size.ensures.points
    c.in_ok-head.ensures c.deref.ensures.value in
    at_fault (λ fault. AddsUntil fault (DemoOutput c.args.number) _ _) c.from_residual-in_err-put_all.result SinkFailed c.from_residual-in_err-put_all.ensures.1
    (part_of_head c.args.number _ _ c.deref.result.now first c.in_err-put_all.ensures.part)

pub session-requires-clause-limits : goal.session-requires-clause-limits
session-requires-clause-limits g c = subst KeepLimits (sym (c.deref-2.ensures.value ∙ c.in_ok-lines.ensures.demo)) demo_lines_keep

pub session-requires-clause-products : goal.session-requires-clause-products
session-requires-clause-products g c =
    subst (λ (lines : List Line). AreProducts [] lines) (sym (c.deref-2.ensures.value ∙ c.in_ok-lines.ensures.demo)) demo_products

pub returns-in_err-session-clause-front : goal.returns-in_err-session-clause-front
returns-in_err-session-clause-front g c =
    let first = first_line_is c.args.number c.size.result c.in_ok-relation.relation c.deref.result.now c.in_ok-head.head.items c.in_ok-relation.ensures.demo c.size.ensures.points
    c.in_ok-head.ensures c.deref.ensures.value in
    let begun = is_begun c.args.number c.in_ok-relation.relation c.in_ok-bench.bench _ _ c.deref.result.now c.in_ok-relation.ensures.demo c.in_ok-bench.ensures.started first c.in_ok-put_all.ensures.all in
    at_fault (λ fault. AddsUntil fault (DemoOutput c.args.number) _ _) c.from_residual-in_err-session.result _ c.from_residual-in_err-session.ensures.1
    (part_of_answers c.args.number _ c.deref-2.result.now c.in_ok-bench.bench c.session.new.bench _ _ _ (c.deref-2.ensures.value ∙ c.in_ok-lines.ensures.demo) begun c.in_err-session.ensures.stopped)

pub returns-in_err-last-clause-front : goal.returns-in_err-last-clause-front
returns-in_err-last-clause-front g c =
    let first = first_line_is c.args.number c.size.result c.in_ok-relation.relation c.deref.result.now c.in_ok-head.head.items c.in_ok-relation.ensures.demo c.size.ensures.points
    c.in_ok-head.ensures c.deref.ensures.value in
    let begun = is_begun c.args.number c.in_ok-relation.relation c.in_ok-bench.bench _ _ c.deref.result.now c.in_ok-relation.ensures.demo c.in_ok-bench.ensures.started first c.in_ok-put_all.ensures.all in
    let answered = is_answered c.args.number c.deref-2.result.now c.in_ok-bench.bench c.session.new.bench _ _ _ (c.deref-2.ensures.value ∙ c.in_ok-lines.ensures.demo) begun c.in_ok-session.ensures.answered in
    at_fault (λ fault. AddsUntil fault (DemoOutput c.args.number) _ _) c.from_residual-in_err-last.result NoMemory c.from_residual-in_err-last.ensures.1 (answers_alone c.args.number c.session.new.bench _ _ answered)

pub returns-in_err-put_all-2-clause-front : goal.returns-in_err-put_all-2-clause-front
returns-in_err-put_all-2-clause-front g c =
    let first = first_line_is c.args.number c.size.result c.in_ok-relation.relation c.deref.result.now c.in_ok-head.head.items c.in_ok-relation.ensures.demo c.size.ensures.points
    c.in_ok-head.ensures c.deref.ensures.value in
    let begun = is_begun c.args.number c.in_ok-relation.relation c.in_ok-bench.bench _ _ c.deref.result.now c.in_ok-relation.ensures.demo c.in_ok-bench.ensures.started first c.in_ok-put_all.ensures.all in
    let answered = is_answered c.args.number c.deref-2.result.now c.in_ok-bench.bench c.session.new.bench _ _ _ (c.deref-2.ensures.value ∙ c.in_ok-lines.ensures.demo) begun c.in_ok-session.ensures.answered in
    at_fault (λ fault. AddsUntil fault (DemoOutput c.args.number) _ _) c.from_residual-in_err-put_all-2.result SinkFailed c.from_residual-in_err-put_all-2.ensures.1
    (part_of_last c.args.number c.session.new.bench _ _ _ c.deref-3.result.now c.in_ok-last.last.items answered c.in_ok-last.ensures c.deref-3.ensures.value c.in_err-put_all-2.ensures.part)

pub returns-clause-all : goal.returns-clause-all
returns-clause-all g c =
    let first = first_line_is c.args.number c.size.result c.in_ok-relation.relation c.deref.result.now c.in_ok-head.head.items c.in_ok-relation.ensures.demo c.size.ensures.points
    c.in_ok-head.ensures c.deref.ensures.value in
    let begun = is_begun c.args.number c.in_ok-relation.relation c.in_ok-bench.bench _ _ c.deref.result.now c.in_ok-relation.ensures.demo c.in_ok-bench.ensures.started first c.in_ok-put_all.ensures.all in
    let answered = is_answered c.args.number c.deref-2.result.now c.in_ok-bench.bench c.session.new.bench _ _ _ (c.deref-2.ensures.value ∙ c.in_ok-lines.ensures.demo) begun c.in_ok-session.ensures.answered in
    whole_demo c.args.number c.session.new.bench _ _ _ c.deref-3.result.now c.in_ok-last.last.items answered c.in_ok-last.ensures c.deref-3.ensures.value c.in_ok-put_all-2.ensures.all
