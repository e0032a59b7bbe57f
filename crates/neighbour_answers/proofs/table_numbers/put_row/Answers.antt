use Rattle.std.proofs.Common.{ℕ}
use Rattle.neighbour_answers.specs.TableAnswer.{is_nonzero_in, number_line}
use Rattle.neighbour_answers.proofs.Listed.{ones_written}
use Rattle.neighbour_answers.proofs.table_numbers.put_row.Goals as goal

pub loop-j-preserved : goal.loop-j-preserved
loop-j-preserved c =
    let A = c.args.table.now in
    let triple : ℕ → ℕ × ℕ × ℕ = λ j. (c.args.k, c.args.i, j) in
    ones_written (is_nonzero_in A) (number_line A) c.args.text.now c.loop-j.text c.put_number.new.text triple c.loop-j.j c.loop-j.invariant c.in_ok-put_number.ensures
