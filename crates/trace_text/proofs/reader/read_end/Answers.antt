use Rattle.trace_text.proofs.TraceRead.{end_fault}
use Rattle.trace_text.proofs.reader.read_end.Goals as goal

pub returns-clause-fault : goal.returns-clause-fault
returns-clause-fault c =
    end_fault c.end.result c.args.cursor.now c.fixed.new.self c.in_ok-fixed.ensures.taken c.in_ok-fixed.ensures.number c.end.ensures.some c.end.ensures.fault
