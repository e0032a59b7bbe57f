use Rattle.std.proofs.Common.{sym, subst, ap, Err}
use Rattle.scheme_io.specs.Count.{Rose}
use Rattle.cohere_inputs.specs.Asked.{asked_ask}
use Rattle.cohere_inputs.specs.Said.{AddsLine}
use Rattle.cohere_inputs.specs.Task.{Ask}
use Rattle.cohere_core.specs.declared.status.Status.{Status}
use Rattle.cohere_core.specs.declared.status.Status.TheVariants.{Done}
use Rattle.cohere_core.specs.Ending.{IsEnding}
use Rattle.cohere_core.specs.Run.{LineAfter}
use Rattle.cohere_core.proofs.Endings.{cut_off, halted, whole}
use Rattle.cohere_core.proofs.AskOutputs.{ask_front, ask_outputs, ask_whole}
use Rattle.cohere_core.proofs.ask_forms.answer_ask.Goals as goal

pub returns-in-Err-clause-ending : goal.returns-in-Err-clause-ending
returns-in-Err-clause-ending g c =
    let files = g.S.Store.files c.args.store.now in
    let written = g.O.Sink.written c.args.out.now in
    let halt = c.in-Err.halt in
    let rose = Rose (g.S.Store.faults c.args.store.now) (g.S.Store.faults c.ask_input.new.store) in
    let failed = Rose (g.O.Sink.faults c.args.out.now) (g.O.Sink.faults c.args.out.now) in
    let says = AddsLine g.E.Sink.written g.E.Sink.faults c.args.err.now c.report.new.err in
    subst (λ (s : Status). IsEnding files (Ask (asked_ask c.args.words)) s rose failed written written says) (sym c.report.ensures.status)
    (halted files (Ask (asked_ask c.args.words)) halt.name.now halt.why rose failed written says tt (ask_outputs (asked_ask c.args.words)) c.in-Err.ensures.halt c.report.ensures.line)

pub returns-in-Ok-write_answer-clause-ending : goal.returns-in-Ok-write_answer-clause-ending
returns-in-Ok-write_answer-clause-ending g c =
    let files = g.S.Store.files c.args.store.now in
    let old = g.O.Sink.written c.args.out.now in
    let new = g.O.Sink.written c.write_answer.new.out in
    whole files (Ask (asked_ask c.args.words)) Done _ _ old new _ tt tt (ask_whole files (asked_ask c.args.words) c.in-Ok.relation old new c.in-Ok.ensures.read c.in-Ok-write_answer.ensures.all)

pub returns-clause-ending : goal.returns-clause-ending
returns-clause-ending g c =
    let files = g.S.Store.files c.args.store.now in
    let fault = c.in-Err-write_answer.fault in
    let old = g.O.Sink.written c.args.out.now in
    let new = g.O.Sink.written c.write_answer.new.out in
    let rose = Rose (g.S.Store.faults c.args.store.now) (g.S.Store.faults c.ask_input.new.store) in
    let failed = Rose (g.O.Sink.faults c.args.out.now) (g.O.Sink.faults c.write_answer.new.out) in
    let says = AddsLine g.E.Sink.written g.E.Sink.faults c.args.err.now c.status_of_fault.new.err in
    subst (λ (s : Status). IsEnding files (Ask (asked_ask c.args.words)) s rose failed old new says) (sym c.status_of_fault.ensures.status)
    (cut_off files (Ask (asked_ask c.args.words)) fault rose failed old new says (ask_front files (asked_ask c.args.words) c.in-Ok.relation fault old new c.in-Ok.ensures.read c.in-Err-write_answer.ensures.front) (λ e. c.in-Err-write_answer.ensures.failed (ap Err e))
    (subst (λ (s : Status). LineAfter s says) c.status_of_fault.ensures.status c.status_of_fault.ensures.line))
