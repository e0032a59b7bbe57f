use Rattle.std.proofs.Common.{sym, subst}
use Rattle.scheme_io.specs.Count.{Rose}
use Rattle.cohere_inputs.specs.Asked.{asked, asked_table}
use Rattle.cohere_inputs.specs.Said.{AddsLine}
use Rattle.cohere_inputs.specs.Task.{Demo, Table}
use Rattle.cohere_inputs.specs.declared.words.Task as code
use Rattle.cohere_core.specs.declared.status.Status.{Status}
use Rattle.cohere_core.specs.Ending.{IsEnding}
use Rattle.cohere_core.specs.Run.{MayAnswer}
use Rattle.cohere_core.proofs.running.carry_out.Goals as goal

pub returns-in-Demo-clause-ending : goal.returns-in-Demo-clause-ending
returns-in-Demo-clause-ending g c =
    let files = g.S.Store.files c.args.store.now in
    let faults = g.S.Store.faults c.args.store.now in
    let failed = Rose (g.O.Sink.faults c.args.out.now) (g.O.Sink.faults c.answer_demo.new.out) in
    let old = g.O.Sink.written c.args.out.now in
    let new = g.O.Sink.written c.answer_demo.new.out in
    let says = AddsLine g.E.Sink.written g.E.Sink.faults c.args.err.now c.answer_demo.new.err in
    subst (λ (task : code.Task). IsEnding files (asked task) c.answer_demo.result (Rose faults faults) failed old new says) (sym c.in-Demo.is)
    (c.answer_demo.ensures.ending files faults faults)

pub returns-in-Demo-clause-no_usage : goal.returns-in-Demo-clause-no_usage
returns-in-Demo-clause-no_usage g c =
    λ e. subst (λ (s : Status). MayAnswer (Demo c.in-Demo.number) s) e (c.answer_demo.ensures.ending (g.S.Store.files c.args.store.now) 0 0).may_answer

pub returns-in-Table-clause-ending : goal.returns-in-Table-clause-ending
returns-in-Table-clause-ending g c =
    let files = g.S.Store.files c.args.store.now in
    let faults = g.S.Store.faults c.args.store.now in
    let failed = Rose (g.O.Sink.faults c.args.out.now) (g.O.Sink.faults c.answer_table.new.out) in
    let old = g.O.Sink.written c.args.out.now in
    let new = g.O.Sink.written c.answer_table.new.out in
    let says = AddsLine g.E.Sink.written g.E.Sink.faults c.args.err.now c.answer_table.new.err in
    subst (λ (task : code.Task). IsEnding files (asked task) c.answer_table.result (Rose faults faults) failed old new says) (sym c.in-Table.is)
    (c.answer_table.ensures.ending files faults faults)

pub returns-in-Table-clause-no_usage : goal.returns-in-Table-clause-no_usage
returns-in-Table-clause-no_usage g c =
    λ e. subst (λ (s : Status). MayAnswer (Table (asked_table c.in-Table.words)) s) e (c.answer_table.ensures.ending (g.S.Store.files c.args.store.now) 0 0).may_answer
