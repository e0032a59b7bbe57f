-- How many lines the text of a claim has.
use Rattle.std.proofs.Common.{◌≡◌, [], ◌∷◌, ◌++◌, length, map, ap, arith}
use Rattle.std.specs.Prelude.{codes}
use Rattle.std.proofs.lemmas.List.{length-append, length-map}
use Rattle.std.proofs.lemmas.List.FromFn.{length-map-range_with_len}
use Rattle.text_lines.specs.Lines.{lines_of}
use Rattle.text_lines.specs.Joined.{spaced}
use Rattle.text_lines.specs.Rows.{matrix_row, matrix_lines}
use Rattle.text_lines.proofs.LineWords.{few_lines}
use Rattle.equitable.specs.declared.cell_claims.CellClaim.{CellClaim}
use Rattle.equitable.specs.BadLines.{line_count}
use Rattle.equitable.specs.CellText.{step_line, cell_lines}
use Rattle.equitable.specs.Law.{ReadingHasFewLines}

length-cell_lines : (claim : CellClaim) → length (cell_lines claim) ≡ line_count claim
length-cell_lines claim =
    let rows = matrix_lines claim.arcs in
    let steps = map step_line claim.steps in
    let end = codes "cells" ∷ spaced claim.cells ∷ codes "end" ∷ [] in
    omega (
      arith,
      length-append (rows ++ steps) end,
      length-append rows steps,
      length-map-range_with_len (matrix_row claim.arcs) 0 claim.arcs.size,
      length-map claim.steps step_line,
    )

pub reading_has_few_lines : ReadingHasFewLines
reading_has_few_lines text claim h =
    omega (arith, ap length h.lines.are, length-cell_lines claim, length-map (lines_of text) (λ part. part.bytes), few_lines 0 text)
