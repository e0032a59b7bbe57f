use Rattle.std.proofs.Common.{◌≡◌, ◌++◌}
use Rattle.std.specs.List.{flat_map}
use Rattle.pair_colours.specs.Colouring.{points}
use Rattle.neighbour_answers.specs.TableAnswer.{level_triples, nonzero_among, number_line}
use Rattle.neighbour_answers.proofs.table_numbers.put_numbers.Given as goal

abbrev pub invariant-loop-k : goal.invariant-loop-k
invariant-loop-k l = l.text ≡ l.initial.text ++ flat_map (number_line l.table) (nonzero_among l.table (flat_map (level_triples l.table) (points l.k)))
