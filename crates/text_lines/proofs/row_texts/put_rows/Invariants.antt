use Rattle.std.proofs.Common.{◌≡◌, ◌++◌}
use Rattle.std.specs.Prelude.{codes}
use Rattle.std.specs.List.{flat_map}
use Rattle.pair_colours.specs.Colouring.{points}
use Rattle.text_lines.specs.Rows.{matrix_row}
use Rattle.text_lines.proofs.row_texts.put_rows.Given as goal

abbrev pub invariant-loop-x : goal.invariant-loop-x
invariant-loop-x l = l.text ≡ l.initial.text ++ flat_map (λ x. matrix_row l.matrix x ++ codes "\n") (points l.x)
