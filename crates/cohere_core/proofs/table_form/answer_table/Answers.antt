use Rattle.std.proofs.Common.{Err, ap, sym, subst}
use Rattle.scheme_io.specs.Count.{Rose}
use Rattle.cohere_inputs.specs.Asked.{asked_table}
use Rattle.cohere_inputs.specs.Said.{AddsLine}
use Rattle.cohere_inputs.specs.Task.{Table}
use Rattle.cohere_core.specs.declared.status.Status.{Status}
use Rattle.cohere_core.specs.declared.status.Status.TheVariants.{Done}
use Rattle.cohere_core.specs.Ending.{IsEndingWithoutFiles}
use Rattle.cohere_core.specs.Run.{LineAfter}
use Rattle.cohere_core.proofs.Endings.{cut_off, whole}
use Rattle.cohere_core.proofs.FreeOutputs.{table_front, table_whole}
use Rattle.cohere_core.proofs.table_form.answer_table.Goals as goal

pub returns-in-Ok-clause-ending : goal.returns-in-Ok-clause-ending
returns-in-Ok-clause-ending g c =
    let words = asked_table c.args.words in
    let old = g.O.Sink.written c.args.out.now in
    let new = g.O.Sink.written c.write_table.new.out in
    λ files before now. whole files (Table words) Done _ _ old new _ tt tt (λ given. table_whole given words old new c.in-Ok.ensures.all)

pub returns-in-Err-clause-ending : goal.returns-in-Err-clause-ending
returns-in-Err-clause-ending g c =
    let words = asked_table c.args.words in
    let fault = c.in-Err.fault in
    let old = g.O.Sink.written c.args.out.now in
    let new = g.O.Sink.written c.write_table.new.out in
    let failed = Rose (g.O.Sink.faults c.args.out.now) (g.O.Sink.faults c.write_table.new.out) in
    let says = AddsLine g.E.Sink.written g.E.Sink.faults c.args.err.now c.status_of_fault.new.err in
    let line = subst (λ (s : Status). LineAfter s says) c.status_of_fault.ensures.status c.status_of_fault.ensures.line in
    subst (λ (s : Status). IsEndingWithoutFiles (Table words) s failed old new says) (sym c.status_of_fault.ensures.status)
    (λ files before now. cut_off files (Table words) fault (Rose before now) failed old new says (λ given. table_front given words fault old new c.in-Err.ensures.front)
    (λ e. c.in-Err.ensures.failed (ap Err e)) line)
