use Rattle.std.proofs.Common.{List, sym, subst}
use Rattle.script_text.specs.declared.acts.Line.{Line}
use Rattle.scheme_io.specs.Count.{Rose}
use Rattle.cohere_inputs.specs.declared.faults.Unread.{Unread}
use Rattle.cohere_inputs.specs.Asked.{asked_run}
use Rattle.cohere_inputs.specs.Needs.{product_needs}
use Rattle.cohere_inputs.specs.Said.{AddsLine}
use Rattle.cohere_inputs.specs.Task.{Run}
use Rattle.cohere_inputs.specs.Unread.{HaltsIn, HaltsSaying}
use Rattle.cohere_inputs.proofs.RunFiles.{product_halts}
use Rattle.cohere_inputs.proofs.run_form.run_inputs.Goals as goal

pub returns-in-Err-products_in-clause-halt : goal.returns-in-Err-products_in-clause-halt
returns-in-Err-products_in-clause-halt g c =
    let files = g.S.Store.files c.args.store.now in
    let between = g.S.Store.files c.named_inputs.new.store in
    let run = asked_run c.args.words in
    let halt = c.in-Err-products_in.halt in
    let start = g.S.Store.faults c.args.store.now in
    let middle = g.S.Store.faults c.named_inputs.new.store in
    let end = g.S.Store.faults c.products_in.new.store in
    let says = AddsLine g.E.Sink.written g.E.Sink.faults c.args.err.now c.said-in-Err-products_in.new.err in
    let halts = subst (λ (lines : List Line). HaltsIn between (product_needs lines) halt.name.now halt.why (Rose middle end)) c.deref.ensures.value c.in-Err-products_in.ensures.halt in
    subst (λ (why : Unread). HaltsSaying files (Run run) why (Rose start end) says) (sym c.said-in-Err-products_in.ensures.why)
    (record {
      name = halt.name.now;
      halts = product_halts files between run c.in-Ok.inputs.0 c.in-Ok.inputs.1.items halt.name.now halt.why start middle end
          c.in-Ok.ensures.same_files c.in-Ok.ensures.later c.in-Ok.ensures.read c.in-Ok.ensures.text halts;
      line = c.said-in-Err-products_in.ensures.line;
    })
