-- The lines of a claim, with rows from the lists of their numbers.
use Rattle.std.proofs.Common.{◌≡◌, ℕ, List, [], ◌∷◌, ◌++◌, ap, ◌∙◌}
use Rattle.std.specs.Prelude.{codes, decimal}
use Rattle.std.specs.List.{flat_map}
use Rattle.std.proofs.lemmas.List.{append_assoc}
use Rattle.text_lines.specs.Rows.{matrix_lines}
use Rattle.trace_text.specs.declared.stage_list.Claim.{Claim}
use Rattle.trace_text.specs.TraceText.{stage_lines, trace_lines}
use Rattle.trace_text.specs.ClaimTexts.{FitsTrace}
use Rattle.trace_text.proofs.ShownStages.{chain_shown, chain_lines}

-- the first two lines of a claim
abbrev pub version_line : ℕ → List ℕ
version_line v = codes "trace " ++ decimal v

abbrev pub points_line : ℕ → List ℕ
points_line n = codes "points " ++ decimal n

-- the lines of a claim, its rows from the lists of their numbers
abbrev pub claim_shown : Claim → List (List ℕ)
claim_shown claim = version_line claim.version ∷ points_line claim.closure.size ∷ chain_shown claim.closure.size claim.closure.colours claim.chain

pub claim_lines : (claim : Claim) → FitsTrace claim → trace_lines claim ≡ claim_shown claim
claim_lines claim f =
    ap (λ l. version_line claim.version ∷ points_line claim.closure.size ∷ l)
    (append_assoc (flat_map stage_lines claim.chain) (codes "closure" ∷ matrix_lines claim.closure) (codes "end" ∷ [])
    ∙ chain_lines claim.version claim.closure claim.chain f.closure.fits.colouring f.stages)
