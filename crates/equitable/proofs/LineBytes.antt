-- The lines of a claim are those of its text: none of its bytes ends a line.
use Rattle.std.proofs.Common.{◌≡◌, ℕ, [], ◌∷◌, ◌++◌, map, refl, sym, subst, arith}
use Rattle.std.specs.Prelude.{codes}
use Rattle.std.specs.List.{AllByRecursion}
use Rattle.text_lines.specs.Lines.{lines_of}
use Rattle.text_lines.specs.Joined.{spaced}
use Rattle.pair_colours.proofs.ListLemmas.{Each-append, Each-map, Each-weaker}
use Rattle.text_lines.proofs.RowLines.{rows_of, rows_plain}
use Rattle.text_lines.proofs.LineBytes.{IsHigh, IsPlain, joined_high, decimal_high, literal, points_high, plain_lines, row_plain}
use Rattle.equitable.specs.declared.cell_steps.CellStep.{CellStep}
use Rattle.equitable.specs.declared.cell_claims.CellClaim.{CellClaim}
use Rattle.equitable.specs.declared.limits.TheConstants.{MOST_CELL}
use Rattle.equitable.specs.CellText.{step_line, cell_lines, cell_text}
use Rattle.equitable.specs.ClaimText.{IsTextStep, HasCellText}
use Rattle.equitable.proofs.LineReadings.{step_words, step_line-words}
use Rattle.equitable.proofs.ArcRows.{arcs_each}
use Rattle.equitable.proofs.CellTexts.{claim_shown, shown_lines}

step_plain : (s : CellStep) → IsTextStep s → IsPlain (step_line s)
step_plain s a = record {
  some = omega arith;
  high = subst IsHigh (sym (step_line-words s))
      (joined_high (step_words s) ((omega arith, tt), (decimal_high s.cell (omega (arith, a.cell)), (decimal_high s.into (omega (arith, a.into)), tt))));
}

claim_plain : (claim : CellClaim) → HasCellText claim → AllByRecursion IsPlain (shown_lines claim)
claim_plain claim f =
    let n : ℕ = claim.arcs.size in
    let c = f.arcs.fits.colouring in (
      literal (codes "cells 1") refl (omega arith),
      (
        record { some = omega arith; high = points_high n (omega (arith, f.arcs.fits.limit)) },
        Each-append IsPlain (rows_of n n claim.arcs.colours) (map step_line claim.steps ++ (codes "cells" ∷ spaced claim.cells ∷ codes "end" ∷ []))
            (rows_plain 1 n n claim.arcs.colours (omega arith) c.has_points c.has_pairs (arcs_each claim.arcs f.arcs))
            (Each-append IsPlain (map step_line claim.steps) (codes "cells" ∷ spaced claim.cells ∷ codes "end" ∷ [])
            (Each-map IsPlain step_line claim.steps (Each-weaker IsTextStep (λ t. IsPlain (step_line t)) step_plain claim.steps f.steps)) (
              literal (codes "cells") refl (omega arith),
              (
                row_plain MOST_CELL claim.cells (omega arith) (omega (arith, f.count, c.has_points)) f.cells,
                (literal (codes "end") refl (omega arith), tt),
              ),
            )),
      ),
    )

pub text_lines : (claim : CellClaim) → HasCellText claim → map (λ part. part.bytes) (lines_of (cell_text claim)) ≡ cell_lines claim
text_lines claim f = plain_lines 0 (cell_lines claim) (subst (AllByRecursion IsPlain) (sym (claim_shown claim f)) (claim_plain claim f))
