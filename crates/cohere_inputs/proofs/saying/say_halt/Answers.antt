use Rattle.std.proofs.Common.{sym, subst}
use Rattle.cohere_inputs.specs.declared.faults.Unread.{Unread}
use Rattle.cohere_inputs.specs.Lines.{halt_line}
use Rattle.cohere_inputs.specs.Said.{AddsLine}
use Rattle.cohere_inputs.proofs.saying.say_halt.Goals as goal

pub returns-in-StoreFailed : goal.returns-in-StoreFailed
returns-in-StoreFailed g c =
    subst (λ (why : Unread). AddsLine g.E.Sink.written g.E.Sink.faults c.args.err.now c.say_unread.new.err (halt_line c.args.halt.now.name.now why)) (sym c.in-StoreFailed.is) c.say_unread.ensures
