use Rattle.std.proofs.Common.{◌≡◌, ◌++◌, map}
use Rattle.std.specs.List.{flat_map}
use Rattle.pair_colours.specs.Colouring.{points}
use Rattle.neighbour_answers.specs.TableAnswer.{nonzero_among, number_line}
use Rattle.neighbour_answers.proofs.table_numbers.put_row.Given as goal

abbrev pub invariant-loop-j : goal.invariant-loop-j
invariant-loop-j l = l.text ≡ l.initial.text ++ flat_map (number_line l.table) (nonzero_among l.table (map (λ j. (l.fn.k, l.fn.i, j)) (points l.j)))
