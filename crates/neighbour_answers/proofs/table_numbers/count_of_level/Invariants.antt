use Rattle.std.proofs.Common.{◌≡◌, ◌*◌, ◌≤◌, length}
use Rattle.std.specs.List.{flat_map}
use Rattle.pair_colours.specs.Colouring.{points}
use Rattle.neighbour_answers.specs.TableAnswer.{row_triples, nonzero_among}
use Rattle.neighbour_answers.proofs.table_numbers.count_of_level.Given as goal

abbrev pub invariant-loop-i : goal.invariant-loop-i
invariant-loop-i l = record {
  count : l.count ≡ length (nonzero_among l.table (flat_map (row_triples l.table l.fn.k) (points l.i)));
  few : l.count ≤ 33 * l.i;
}
