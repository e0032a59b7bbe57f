use Rattle.std.proofs.Common.{Err, ap, sym, subst}
use Rattle.scheme_io.specs.Count.{Rose}
use Rattle.cohere_inputs.specs.Said.{AddsLine}
use Rattle.cohere_inputs.specs.Task.{Demo}
use Rattle.cohere_core.specs.declared.status.Status.{Status}
use Rattle.cohere_core.specs.declared.status.Status.TheVariants.{Done}
use Rattle.cohere_core.specs.Ending.{IsEndingWithoutFiles}
use Rattle.cohere_core.specs.Run.{LineAfter}
use Rattle.cohere_core.proofs.Endings.{cut_off, whole}
use Rattle.cohere_core.proofs.FreeOutputs.{demo_front, demo_whole}
use Rattle.cohere_core.proofs.demo_form.answer_demo.Goals as goal

pub returns-in-Ok-clause-ending : goal.returns-in-Ok-clause-ending
returns-in-Ok-clause-ending g c =
    let number = c.args.number in
    let old = g.O.Sink.written c.args.out.now in
    let new = g.O.Sink.written c.demonstrate.new.out in
    λ files before now. whole files (Demo number) Done _ _ old new _ tt tt (λ given. demo_whole given number old new c.in-Ok.ensures.all)

pub returns-in-Err-clause-ending : goal.returns-in-Err-clause-ending
returns-in-Err-clause-ending g c =
    let number = c.args.number in
    let fault = c.in-Err.fault in
    let old = g.O.Sink.written c.args.out.now in
    let new = g.O.Sink.written c.demonstrate.new.out in
    let failed = Rose (g.O.Sink.faults c.args.out.now) (g.O.Sink.faults c.demonstrate.new.out) in
    let says = AddsLine g.E.Sink.written g.E.Sink.faults c.args.err.now c.status_of_fault.new.err in
    let line = subst (λ (s : Status). LineAfter s says) c.status_of_fault.ensures.status c.status_of_fault.ensures.line in
    subst (λ (s : Status). IsEndingWithoutFiles (Demo number) s failed old new says) (sym c.status_of_fault.ensures.status)
    (λ files before now. cut_off files (Demo number) fault (Rose before now) failed old new says (λ given. demo_front given number fault old new c.in-Err.ensures.front)
    (λ e. c.in-Err.ensures.failed (ap Err e)) line)
