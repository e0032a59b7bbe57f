-- The text of a claim. (The format is this project's own.)
use Rattle.std.specs.Prelude.{ℕ, List, [], ◌∷◌, ◌++◌, map, codes, decimal}
use Rattle.std.specs.List.{flat_map}
use Rattle.trace_text.specs.declared.step_list.Step.{Step}
use Rattle.trace_text.specs.declared.step_list.Step.TheVariants.{Diag, Flip, Tri, Round}
use Rattle.trace_text.specs.declared.stage_list.Stage.{Stage}
use Rattle.trace_text.specs.declared.stage_list.Claim.{Claim}
use Rattle.trace_text.specs.Split.{numbers_of}
use Rattle.text_lines.specs.Rows.{matrix_lines}
use Rattle.text_lines.specs.LinesText.{lines_text}

-- the letter of a step
abbrev pub letter_of : Step → List ℕ
letter_of (Diag k) = codes "D"
letter_of (Flip k other) = codes "F"
letter_of (Tri k left right) = codes "T"
letter_of Round = codes "R"

-- a step line: the letter, and the numbers that the step names
abbrev pub step_line : Step → List ℕ
step_line s = letter_of s ++ flat_map (λ number. codes " " ++ decimal number) (numbers_of s)

-- the lines of a stage: the line `stage`, its rows of colours, and its steps
abbrev pub stage_lines : Stage → List (List ℕ)
stage_lines stage = codes "stage" ∷ matrix_lines stage.colours ++ map step_line stage.steps

-- the lines of a claim
abbrev pub trace_lines : Claim → List (List ℕ)
trace_lines claim =
    (codes "trace " ++ decimal claim.version) ∷ (codes "points " ++ decimal claim.closure.size) ∷ flat_map stage_lines claim.chain
    ++ codes "closure" ∷ matrix_lines claim.closure ++ codes "end" ∷ []

-- the text of a claim
abbrev pub trace_text : Claim → List ℕ
trace_text claim = lines_text (trace_lines claim)
