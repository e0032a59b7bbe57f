-- The numbers of an accepted claim are within the limits of a text.
use Rattle.std.proofs.Common.{ℕ, ◌≤◌, List, [], ◌∷◌, length, sym, ap, subst, ◌∙◌, arith}
use Rattle.std.specs.List.{AllByRecursion}
use Rattle.std.proofs.lemmas.List.{length-replicate}
use Rattle.pair_colours.specs.Colouring.{PairColouring}
use Rattle.pair_colours.specs.declared.coloured_pairs.TheConstants.{MOST_POINTS}
use Rattle.pair_colours.proofs.ListLemmas.{Each-map, Each-weaker}
use Rattle.equitable.specs.declared.cell_steps.CellStep.{CellStep}
use Rattle.equitable.specs.declared.limits.TheConstants.{MOST_CELL}
use Rattle.equitable.specs.Equitable.{cell_number, numbered}
use Rattle.equitable.specs.CellSplit.{key_of, split_of, AreAllowed}
use Rattle.equitable.specs.Acceptance.{one_cell, last_cells}
use Rattle.equitable.specs.ClaimText.{IsTextStep}
use Rattle.equitable.specs.Law.{AcceptedHasText}
use Rattle.equitable.proofs.CellNumbers.{IsCell, Each-cell, cell_count-le, number_below, length-numbered}
use Rattle.equitable.proofs.Parts.{length-parted_by}

-- steps that may be made name numbers of cells
steps_small : (G : PairColouring) (W : List ℕ) (steps : List CellStep) → length W ≤ MOST_POINTS → AreAllowed G W steps → AllByRecursion IsTextStep steps
steps_small G W [] few a = tt
steps_small G W (s ∷ steps) few a = (
  record { cell = omega (arith, a.0.names.cell, cell_count-le W, few); into = omega (arith, a.0.names.into, cell_count-le W, few) },
  steps_small G (split_of G W s) steps (omega (arith, few, length-parted_by W s.cell (key_of G W s))) a.1,
)

-- and so are the numbers of a numbering
numbered_small : (W : List ℕ) → length W ≤ MOST_POINTS → AllByRecursion (λ cell. cell ≤ MOST_CELL) (numbered W)
numbered_small W few =
    Each-map (λ cell. cell ≤ MOST_CELL) (cell_number W) W
    (Each-weaker (IsCell W) (λ c. cell_number W c ≤ MOST_CELL) (λ c u. omega (arith, number_below W c u, cell_count-le W, few)) W (Each-cell W))

pub accepted_has_text : AcceptedHasText
accepted_has_text claim arcs a =
    let few : length (last_cells claim) ≤ MOST_POINTS = omega (arith, a.equitable.cells, arcs.fits.limit) in
    record {
      arcs = arcs;
      steps = steps_small claim.arcs (one_cell claim.arcs.size) claim.steps
          (omega (arith, length-replicate {A = ℕ} claim.arcs.size 0, arcs.fits.limit)) a.steps;
      count = ap length a.named ∙ length-numbered (last_cells claim) ∙ a.equitable.cells;
      cells = subst (AllByRecursion (λ cell. cell ≤ MOST_CELL)) (sym a.named) (numbered_small (last_cells claim) few);
    }
