use Rattle.neighbour_answers.specs.TableAnswer.{is_nonzero_in, number_line, row_triples}
use Rattle.neighbour_answers.proofs.Listed.{parts_written}
use Rattle.neighbour_answers.proofs.table_numbers.put_level.Goals as goal

pub loop-i-preserved : goal.loop-i-preserved
loop-i-preserved c =
    let A = c.args.table.now in
    parts_written (is_nonzero_in A) (number_line A) c.args.text.now c.loop-i.text c.put_row.new.text (row_triples A c.args.k) c.loop-i.i c.loop-i.invariant c.in_ok-put_row.ensures
