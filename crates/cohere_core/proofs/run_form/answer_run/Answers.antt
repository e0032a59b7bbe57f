use Rattle.std.proofs.Common.{length, ◌∙◌, ap, sym, subst, Err}
use Rattle.std.specs.Prelude.{All}
use Rattle.scheme_io.specs.Count.{Rose}
use Rattle.pair_colours.specs.Colouring.{IsRawColouring}
use Rattle.script_text.specs.Script.{product_count}
use Rattle.cohere_inputs.specs.Asked.{asked_run}
use Rattle.cohere_inputs.specs.Said.{AddsLine}
use Rattle.cohere_inputs.specs.Task.{Run}
use Rattle.cohere_core.specs.declared.status.Status.{Status}
use Rattle.cohere_core.specs.declared.status.Status.TheVariants.{Done}
use Rattle.cohere_core.specs.Added.{AddsText, AddsUntil}
use Rattle.cohere_core.specs.Ending.{IsEnding, fault_status}
use Rattle.cohere_core.specs.Output.{ScriptOutput}
use Rattle.cohere_core.specs.Run.{LineAfter}
use Rattle.cohere_core.proofs.Endings.{cut_off, halted, whole}
use Rattle.cohere_core.proofs.RunOutputs.{over_read, run_front, run_outputs, run_whole}
use Rattle.cohere_core.proofs.run_form.answer_run.Goals as goal

pub returns-in-Err-clause-ending : goal.returns-in-Err-clause-ending
returns-in-Err-clause-ending g c =
    let files = g.S.Store.files c.args.store.now in
    let run = asked_run c.args.words in
    let written = g.O.Sink.written c.args.out.now in
    let halt = c.in-Err.ensures.halt in
    let rose = Rose (g.S.Store.faults c.args.store.now) (g.S.Store.faults c.run_inputs.new.store) in
    let failed = Rose (g.O.Sink.faults c.args.out.now) (g.O.Sink.faults c.args.out.now) in
    let says = AddsLine g.E.Sink.written g.E.Sink.faults c.args.err.now c.run_inputs.new.err in
    subst (λ (s : Status). IsEnding files (Run run) s rose failed written written says) (sym c.status_of_halt.ensures)
    (halted files (Run run) halt.name c.in-Err.why rose failed written says tt (run_outputs run) halt.halts halt.line)

pub answer_script-requires-clause-products : goal.answer_script-requires-clause-products
answer_script-requires-clause-products g c = record {
  one_each = ap length c.deref-2.ensures.value ∙ c.in-Ok.ensures.one_each ∙ ap product_count (sym c.deref.ensures.value);
  raw = subst (All IsRawColouring) (sym c.deref-2.ensures.value) c.in-Ok.ensures.products;
}

pub returns-in-Ok-answer_script-clause-ending : goal.returns-in-Ok-answer_script-clause-ending
returns-in-Ok-answer_script-clause-ending g c =
    let files = g.S.Store.files c.args.store.now in
    let inputs = c.in-Ok.inputs in
    let old = g.O.Sink.written c.args.out.now in
    let new = g.O.Sink.written c.answer_script.new.out in
    let all = over_read (λ products lines. AddsText (ScriptOutput inputs.relation products lines) old new) inputs.products.items c.deref-2.result.now inputs.lines.items c.deref.result.now
    c.deref-2.ensures.value c.deref.ensures.value c.in-Ok-answer_script.ensures.all in
    whole files (Run (asked_run c.args.words)) Done _ _ old new _ tt tt
    (run_whole files (asked_run c.args.words) inputs.relation inputs.lines.items inputs.products.items old new c.in-Ok.ensures.read all)

pub returns-clause-ending : goal.returns-clause-ending
returns-clause-ending g c =
    let files = g.S.Store.files c.args.store.now in
    let run = asked_run c.args.words in
    let inputs = c.in-Ok.inputs in
    let fault = c.in-Err-answer_script.fault in
    let old = g.O.Sink.written c.args.out.now in
    let new = g.O.Sink.written c.answer_script.new.out in
    let rose = Rose (g.S.Store.faults c.args.store.now) (g.S.Store.faults c.run_inputs.new.store) in
    let failed = Rose (g.O.Sink.faults c.args.out.now) (g.O.Sink.faults c.answer_script.new.out) in
    let says = AddsLine g.E.Sink.written g.E.Sink.faults c.args.err.now c.status_of_fault.new.err in
    let said = AddsLine g.E.Sink.written g.E.Sink.faults c.run_inputs.new.err c.status_of_fault.new.err in
    let line = subst (λ (s : Status). LineAfter s said) c.status_of_fault.ensures.status c.status_of_fault.ensures.line in
    let front = over_read (λ products lines. AddsUntil fault (ScriptOutput inputs.relation products lines) old new) inputs.products.items c.deref-2.result.now inputs.lines.items c.deref.result.now
    c.deref-2.ensures.value c.deref.ensures.value c.in-Err-answer_script.ensures.front in
    subst (λ (s : Status). IsEnding files (Run run) s rose failed old new says) (sym c.status_of_fault.ensures.status)
    (cut_off files (Run run) fault rose failed old new says (run_front files run inputs.relation inputs.lines.items inputs.products.items fault old new c.in-Ok.ensures.read front) (λ e. c.in-Err-answer_script.ensures.failed (ap Err e))
    (subst (λ err. LineAfter (fault_status fault) (AddsLine g.E.Sink.written g.E.Sink.faults err c.status_of_fault.new.err)) c.in-Ok.ensures.quiet line))
