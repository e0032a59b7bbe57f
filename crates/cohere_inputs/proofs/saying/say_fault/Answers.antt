use Rattle.std.proofs.Common.{sym, subst}
use Rattle.cohere_inputs.specs.declared.faults.FileFault.{FileFault}
use Rattle.cohere_inputs.specs.Lines.{fault_line}
use Rattle.cohere_inputs.specs.Said.{AddsLine}
use Rattle.cohere_inputs.proofs.saying.say_fault.Goals as goal

pub returns-in-Missing : goal.returns-in-Missing
returns-in-Missing g c =
    subst (λ (f : FileFault). AddsLine g.E.Sink.written g.E.Sink.faults c.args.err.now c.say_unread.new.err (fault_line c.args.name.now f)) (sym c.in-Missing.is) c.say_unread.ensures
