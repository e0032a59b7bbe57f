use Rattle.std.proofs.Common.{◌≡◌, ◌*◌, ◌≤◌, length}
use Rattle.std.specs.List.{flat_map}
use Rattle.pair_colours.specs.Colouring.{points}
use Rattle.neighbour_answers.specs.TableAnswer.{level_triples, nonzero_among}
use Rattle.neighbour_answers.proofs.table_numbers.entry_count.Given as goal

abbrev pub invariant-loop-k : goal.invariant-loop-k
invariant-loop-k l = record {
  count : l.count ≡ length (nonzero_among l.table (flat_map (level_triples l.table) (points l.k)));
  few : l.count ≤ 1089 * l.k;
}
