-- The text of a claim. (The format is this project's own.)
use Rattle.std.specs.Prelude.{ℕ, List, [], ◌∷◌, ◌++◌, map, codes, decimal}
use Rattle.text_lines.specs.Joined.{spaced}
use Rattle.text_lines.specs.LinesText.{lines_text}
use Rattle.text_lines.specs.Rows.{matrix_lines}
use Rattle.equitable.specs.declared.cell_steps.CellStep.{CellStep}
use Rattle.equitable.specs.declared.cell_claims.CellClaim.{CellClaim}

-- a step line: the letter, and the two cells that the step names
abbrev pub step_line : CellStep → List ℕ
step_line s = codes "S " ++ decimal s.cell ++ codes " " ++ decimal s.into

-- the lines of a claim: its arcs are the rows of a matrix
abbrev pub cell_lines : CellClaim → List (List ℕ)
cell_lines claim =
    codes "cells 1" ∷ (codes "points " ++ decimal claim.arcs.size) ∷ matrix_lines claim.arcs
    ++ map step_line claim.steps
    ++ codes "cells" ∷ spaced claim.cells ∷ codes "end" ∷ []

-- the text of a claim
abbrev pub cell_text : CellClaim → List ℕ
cell_text claim = lines_text (cell_lines claim)
