use Rattle.std.proofs.Common.{◌≡◌, ◌++◌, map}
use Rattle.pair_colours.specs.Colouring.{colour_at, points}
use Rattle.text_lines.specs.Joined.{spaced}
use Rattle.text_lines.proofs.row_texts.put_row.Given as goal

abbrev pub invariant-loop-y : goal.invariant-loop-y
invariant-loop-y l = l.text ≡ l.initial.text ++ spaced (map (λ y. colour_at l.matrix l.x y) (points l.y))
