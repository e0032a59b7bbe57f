use Rattle.equitable.proofs.HeadRead.{end_fault}
use Rattle.equitable.proofs.reader.read_end.Goals as goal

pub returns-clause-fault : goal.returns-clause-fault
returns-clause-fault c =
    end_fault c.no_line.result c.args.cursor.now c.fixed_line.new.cursor c.in_ok-fixed_line.ensures.taken c.in_ok-fixed_line.ensures.number
    c.no_line.ensures.some c.no_line.ensures.fault
