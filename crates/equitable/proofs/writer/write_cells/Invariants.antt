use Rattle.std.proofs.Common.{◌≡◌, ◌++◌, map, take}
use Rattle.text_lines.specs.LinesText.{lines_text}
use Rattle.equitable.specs.CellText.{step_line}
use Rattle.equitable.proofs.writer.write_cells.Given as goal

abbrev pub invariant-loop-place : goal.invariant-loop-place
invariant-loop-place l = l.text ≡ l.initial.text ++ lines_text (map step_line (take l.place l.claim.steps))
