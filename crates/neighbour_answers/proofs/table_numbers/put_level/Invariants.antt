use Rattle.std.proofs.Common.{◌≡◌, ◌++◌}
use Rattle.std.specs.List.{flat_map}
use Rattle.pair_colours.specs.Colouring.{points}
use Rattle.neighbour_answers.specs.TableAnswer.{nonzero_among, number_line, row_triples}
use Rattle.neighbour_answers.proofs.table_numbers.put_level.Given as goal

abbrev pub invariant-loop-i : goal.invariant-loop-i
invariant-loop-i l = l.text ≡ l.initial.text ++ flat_map (number_line l.table) (nonzero_among l.table (flat_map (row_triples l.table l.fn.k) (points l.i)))
