use Rattle.std.proofs.Common.{ℕ, arith}
use Rattle.neighbour_answers.specs.TableAnswer.{is_nonzero_in}
use Rattle.neighbour_answers.proofs.Listed.{dropped_counts, kept_counts, nonzero_is, ones_counted, zero_is}
use Rattle.neighbour_answers.proofs.table_numbers.count_of_row.Goals as goal
use Rattle.neighbour_answers.proofs.table_numbers.count_of_row.Goals.{then-value-ne0, else-value-ne0}

pub loop-j-preserved : goal.loop-j-preserved
loop-j-preserved c =
    let A = c.args.table.now in
    let k = c.args.k in
    let i = c.args.i in
    let j = c.loop-j.j in
    let triple : ℕ → ℕ × ℕ × ℕ = λ j. (k, i, j) in
    elim c.if-value-ne0.branch [
      | then-value-ne0 w ↦ record {
        count = ones_counted (is_nonzero_in A) triple j c.loop-j.count _ 1 c.loop-j.invariant.count
            (kept_counts (is_nonzero_in A) (triple j) (nonzero_is A k i j c.value.result c.value.ensures w.if-value-ne0.true)) w.count-is;
        few = omega (arith, w.count-is, c.loop-j.invariant.few);
      }
      | else-value-ne0 w ↦ record {
        count = ones_counted (is_nonzero_in A) triple j c.loop-j.count _ 0 c.loop-j.invariant.count
            (dropped_counts (is_nonzero_in A) (triple j) (zero_is A k i j c.value.result c.value.ensures w.if-value-ne0.false)) (omega (arith, w.count-is));
        few = omega (arith, w.count-is, c.loop-j.invariant.few);
      }
    ]
