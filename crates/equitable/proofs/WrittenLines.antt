-- Texts that are written line by line.
use Rattle.std.proofs.Common.{◌≡◌, ℕ, ◌+◌, List, [], ◌∷◌, ◌++◌, map, take, sym, ap, ◌∙◌}
use Rattle.std.specs.Prelude.{codes, decimal, slice_get, Some}
use Rattle.std.proofs.lemmas.List.{append_assoc, append-nil, take_more, map-append}
use Rattle.std.proofs.lemmas.Option.{slice_get_within, get_or_from_slice_get}
use Rattle.text_lines.specs.Joined.{spaced}
use Rattle.text_lines.specs.LinesText.{lines_text}
use Rattle.text_lines.specs.Rows.{matrix_lines}
use Rattle.text_lines.proofs.LinesText.{text_more, one_line}
use Rattle.equitable.specs.declared.cell_steps.CellStep.{CellStep}
use Rattle.equitable.specs.declared.cell_claims.CellClaim.{CellClaim}
use Rattle.equitable.specs.CellText.{step_line, cell_text}

-- one more step
pub step_more : (start old new : List ℕ) (steps : List CellStep) (place : ℕ) (s : CellStep) → old ≡ start ++ lines_text (map step_line (take place steps))
    → slice_get steps place ≡ Some s → new ≡ old ++ lines_text (step_line s ∷ []) → new ≡ start ++ lines_text (map step_line (take (place + 1) steps))
step_more start old new steps place s before is after =
    let more : take (place + 1) steps ≡ take place steps ++ s ∷ [] = take_more steps place s (slice_get_within steps place s is)
    ∙ ap (λ t. take place steps ++ t ∷ []) (get_or_from_slice_get steps place s s is) in
    text_more start old new (map step_line (take place steps)) (step_line s ∷ []) before after
    ∙ ap (λ l. start ++ lines_text l) (sym (ap (map step_line) more ∙ map-append step_line (take place steps) (s ∷ [])))

-- a whole text
pub whole_text : (t0 t1 t2 t3 t4 t5 t6 t7 : List ℕ) (claim : CellClaim) → t0 ≡ codes "cells 1\n"
    → t1 ≡ t0 ++ codes "points " ++ decimal claim.arcs.size → t2 ≡ t1 ++ codes "\n"
    → t3 ≡ t2 ++ lines_text (matrix_lines claim.arcs) → t4 ≡ t3 ++ lines_text (map step_line claim.steps)
    → t5 ≡ t4 ++ codes "cells\n" → t6 ≡ t5 ++ (spaced claim.cells ++ codes "\n") → t7 ≡ t6 ++ codes "end\n" → t7 ≡ cell_text claim
whole_text t0 t1 t2 t3 t4 t5 t6 t7 claim a b c d e f g h =
    let points = codes "points " ++ decimal claim.arcs.size in
    let head = codes "cells 1" ∷ [] in
    let rows = matrix_lines claim.arcs in
    let steps = map step_line claim.steps in
    let cells = spaced claim.cells in
    let first : t0 ≡ [] ++ lines_text head = a in
    let sized : t1 ≡ t0 ++ points = b ∙ append_assoc t0 (codes "points ") (decimal claim.arcs.size) in
    let second : t2 ≡ [] ++ lines_text (head ++ points ∷ []) = text_more [] t0 t2 head (points ∷ []) first (one_line t0 t1 t2 points sized c) in
    let third = text_more [] t2 t3 (head ++ points ∷ []) rows second d in
    let fourth = text_more [] t3 t4 ((head ++ points ∷ []) ++ rows) steps third e in
    let fifth = text_more [] t4 t5 (((head ++ points ∷ []) ++ rows) ++ steps) (codes "cells" ∷ []) fourth f in
    let last : t6 ≡ t5 ++ lines_text (cells ∷ []) = g ∙ ap (λ t. t5 ++ t) (sym (append-nil (cells ++ codes "\n"))) in
    let sixth = text_more [] t5 t6 ((((head ++ points ∷ []) ++ rows) ++ steps) ++ codes "cells" ∷ []) (cells ∷ []) fifth last in
    let seventh = text_more [] t6 t7 (((((head ++ points ∷ []) ++ rows) ++ steps) ++ codes "cells" ∷ []) ++ cells ∷ []) (codes "end" ∷ []) sixth h in
    seventh
    ∙ ap lines_text
    (append_assoc ((((head ++ points ∷ []) ++ rows) ++ steps) ++ codes "cells" ∷ []) (cells ∷ []) (codes "end" ∷ [])
    ∙ append_assoc (((head ++ points ∷ []) ++ rows) ++ steps) (codes "cells" ∷ []) (cells ∷ codes "end" ∷ []))
