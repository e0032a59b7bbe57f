use Rattle.std.proofs.Common.{◌≡◌, ◌≤◌, length, map}
use Rattle.pair_colours.specs.Colouring.{points}
use Rattle.neighbour_answers.specs.TableAnswer.{nonzero_among}
use Rattle.neighbour_answers.proofs.table_numbers.count_of_row.Given as goal

abbrev pub invariant-loop-j : goal.invariant-loop-j
invariant-loop-j l = record {
  count : l.count ≡ length (nonzero_among l.table (map (λ j. (l.fn.k, l.fn.i, j)) (points l.j)));
  few : l.count ≤ l.j;
}
