use Rattle.std.proofs.Common.{refl, arith}
use Rattle.neighbour_answers.specs.TableAnswer.{is_nonzero_in, row_triples}
use Rattle.neighbour_answers.proofs.Listed.{parts_counted}
use Rattle.neighbour_answers.proofs.table_numbers.count_of_level.Goals as goal

pub loop-i-preserved : goal.loop-i-preserved
loop-i-preserved c =
    let A = c.args.table.now in record {
      count = parts_counted (is_nonzero_in A) (row_triples A c.args.k) c.loop-i.i c.loop-i.count _ c.count_of_row-count.result c.loop-i.invariant.count c.count_of_row-count.ensures.count refl;
      few = omega (arith, c.loop-i.invariant.few, c.count_of_row-count.ensures.few);
    }
