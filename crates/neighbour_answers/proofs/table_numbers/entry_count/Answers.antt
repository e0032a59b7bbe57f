use Rattle.std.proofs.Common.{refl, arith}
use Rattle.neighbour_answers.specs.TableAnswer.{is_nonzero_in, level_triples}
use Rattle.neighbour_answers.proofs.Listed.{parts_counted}
use Rattle.neighbour_answers.proofs.table_numbers.entry_count.Goals as goal

pub overflow_add-count : goal.overflow_add-count
overflow_add-count c =
    omega (arith, c.loop-k.invariant.few, c.count_of_level-count.ensures.few, c.loop-k-test.true, c.diameter-k-end.ensures.value, c.diameter-k-end.ensures.fits.most)

pub loop-k-preserved : goal.loop-k-preserved
loop-k-preserved c =
    let A = c.args.table.now in record {
      count = parts_counted (is_nonzero_in A) (level_triples A) c.loop-k.k c.loop-k.count _ c.count_of_level-count.result c.loop-k.invariant.count c.count_of_level-count.ensures.count refl;
      few = omega (arith, c.loop-k.invariant.few, c.count_of_level-count.ensures.few);
    }
