use Rattle.neighbour_answers.specs.TableAnswer.{is_nonzero_in, level_triples, number_line}
use Rattle.neighbour_answers.proofs.Listed.{parts_written}
use Rattle.neighbour_answers.proofs.table_numbers.put_numbers.Goals as goal

pub loop-k-preserved : goal.loop-k-preserved
loop-k-preserved c =
    let A = c.args.table.now in
    parts_written (is_nonzero_in A) (number_line A) c.args.text.now c.loop-k.text c.put_level.new.text (level_triples A) c.loop-k.k c.loop-k.invariant c.in_ok-put_level.ensures
