use Rattle.std.proofs.Common.{sym, subst, ap, Err}
use Rattle.scheme_io.specs.Count.{Rose}
use Rattle.cohere_inputs.specs.Said.{AddsLine}
use Rattle.cohere_inputs.specs.Task.{Check}
use Rattle.cohere_core.specs.declared.status.Status.{Status}
use Rattle.cohere_core.specs.declared.status.Status.TheVariants.{Done, CheckedNo}
use Rattle.cohere_core.specs.Ending.{IsEnding}
use Rattle.cohere_core.specs.Run.{LineAfter}
use Rattle.cohere_core.proofs.Endings.{cut_off, halted, whole}
use Rattle.cohere_core.proofs.CheckOutputs.{check_accepted, check_front, check_outputs, check_refused}
use Rattle.cohere_core.proofs.check_form.answer_check.Goals as goal

pub returns-in-Err-clause-ending : goal.returns-in-Err-clause-ending
returns-in-Err-clause-ending g c =
    let files = g.S.Store.files c.args.store.now in
    let written = g.O.Sink.written c.args.out.now in
    let halt = c.in-Err.halt in
    let rose = Rose (g.S.Store.faults c.args.store.now) (g.S.Store.faults c.check_input.new.store) in
    let failed = Rose (g.O.Sink.faults c.args.out.now) (g.O.Sink.faults c.args.out.now) in
    let says = AddsLine g.E.Sink.written g.E.Sink.faults c.args.err.now c.report.new.err in
    subst (λ (s : Status). IsEnding files (Check c.args.trace.now) s rose failed written written says) (sym c.report.ensures.status)
    (halted files (Check c.args.trace.now) halt.name.now halt.why rose failed written says tt (check_outputs c.args.trace.now) c.in-Err.ensures.halt c.report.ensures.line)

pub returns-in-Ok-Accepted-clause-ending : goal.returns-in-Ok-Accepted-clause-ending
returns-in-Ok-Accepted-clause-ending g c =
    let files = g.S.Store.files c.args.store.now in
    let arm = c.in-Ok-Accepted in
    let old = g.O.Sink.written c.args.out.now in
    let new = g.O.Sink.written c.judge.new.out in
    whole files (Check c.args.trace.now) Done _ _ old new _ tt tt
    (check_accepted files c.args.trace.now c.in-Ok.claim arm.field-0 arm.field-0-0 arm.field-0-1 arm.field-0-2 old new c.in-Ok.ensures.read arm.field-0-is arm.ensures.verdict arm.ensures.all)

pub returns-in-Ok-Refused-clause-ending : goal.returns-in-Ok-Refused-clause-ending
returns-in-Ok-Refused-clause-ending g c =
    let files = g.S.Store.files c.args.store.now in
    let arm = c.in-Ok-Refused in
    let old = g.O.Sink.written c.args.out.now in
    let new = g.O.Sink.written c.judge.new.out in
    whole files (Check c.args.trace.now) CheckedNo _ _ old new _ tt tt
    (check_refused files c.args.trace.now c.in-Ok.claim arm.field-0 arm.field-0-0 arm.field-0-1 old new c.in-Ok.ensures.read arm.field-0-is arm.ensures.verdict arm.ensures.all)

pub returns-clause-ending : goal.returns-clause-ending
returns-clause-ending g c =
    let files = g.S.Store.files c.args.store.now in
    let fault = c.in-Err-judge.fault in
    let old = g.O.Sink.written c.args.out.now in
    let new = g.O.Sink.written c.judge.new.out in
    let rose = Rose (g.S.Store.faults c.args.store.now) (g.S.Store.faults c.check_input.new.store) in
    let failed = Rose (g.O.Sink.faults c.args.out.now) (g.O.Sink.faults c.judge.new.out) in
    let says = AddsLine g.E.Sink.written g.E.Sink.faults c.args.err.now c.status_of_fault.new.err in
    subst (λ (s : Status). IsEnding files (Check c.args.trace.now) s rose failed old new says) (sym c.status_of_fault.ensures.status)
    (cut_off files (Check c.args.trace.now) fault rose failed old new says (check_front files c.args.trace.now c.in-Ok.claim fault old new c.in-Ok.ensures.read c.in-Err-judge.ensures.front) (λ e. c.in-Err-judge.ensures.failed (ap Err e))
    (subst (λ (s : Status). LineAfter s says) c.status_of_fault.ensures.status c.status_of_fault.ensures.line))
