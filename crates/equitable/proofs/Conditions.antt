-- The conditions by line hold exactly where a claim is accepted.
use Rattle.std.proofs.Common.{◌≡◌, ℕ, ◌+◌, List, [], ◌∷◌, ◌++◌, length, ap, ◌∙◌, arith}
use Rattle.pair_colours.specs.Colouring.{PairColouring}
use Rattle.pair_colours.proofs.ListLemmas.{Each-append, Each-parts}
use Rattle.equitable.specs.declared.cell_steps.CellStep.{CellStep}
use Rattle.equitable.specs.declared.cell_claims.CellClaim.{CellClaim}
use Rattle.equitable.specs.CellSplit.{AreAllowed, split_of, cells_after}
use Rattle.equitable.specs.Acceptance.{AcceptsCells, one_cell, last_cells}
use Rattle.equitable.specs.BadLines.{names_cells, has_parts, Holds, step_conditions, first_step_line, cells_line, end_conditions, conditions, AllHold}

-- the conditions on steps
pub allowed_from_hold : (line : ℕ) (G : PairColouring) (W : List ℕ) (steps : List CellStep) → AllHold (step_conditions line G W steps) → AreAllowed G W steps
allowed_from_hold line G W [] h = tt
allowed_from_hold line G W (s ∷ steps) h = (record { names = h.0; parts = h.1.0 }, allowed_from_hold (line + 1) G (split_of G W s) steps h.1.1)

pub hold_from_allowed : (line : ℕ) (G : PairColouring) (W : List ℕ) (steps : List CellStep) → AreAllowed G W steps → AllHold (step_conditions line G W steps)
hold_from_allowed line G W [] a = tt
hold_from_allowed line G W (s ∷ steps) a = (a.0.names, (a.0.parts, hold_from_allowed (line + 1) G (split_of G W s) steps a.1))

-- so a claim is accepted exactly where all conditions on it hold
pub accepts_from_hold : (claim : CellClaim) → AllHold (conditions claim) → AcceptsCells claim
accepts_from_hold claim h =
    let one = one_cell claim.arcs.size in
    let both = Each-parts (λ at. Holds at.1) (step_conditions (first_step_line claim) claim.arcs one claim.steps)
    (end_conditions (cells_line claim) claim.arcs (last_cells claim) claim.cells) h in
    record { steps = allowed_from_hold (first_step_line claim) claim.arcs one claim.steps both.0; equitable = both.1.0; named = both.1.1.0 }

pub hold_from_accepts : (claim : CellClaim) → AcceptsCells claim → AllHold (conditions claim)
hold_from_accepts claim a =
    let one = one_cell claim.arcs.size in
    Each-append (λ at. Holds at.1) (step_conditions (first_step_line claim) claim.arcs one claim.steps)
    (end_conditions (cells_line claim) claim.arcs (last_cells claim) claim.cells)
    (hold_from_allowed (first_step_line claim) claim.arcs one claim.steps a.steps)
    (a.equitable, (a.named, tt))

-- the conditions on steps one after the other
pub step_conditions-append : (line : ℕ) (G : PairColouring) (W : List ℕ) (steps more : List CellStep)
    → step_conditions line G W (steps ++ more) ≡ step_conditions line G W steps ++ step_conditions (line + length steps) G (cells_after G W steps) more
step_conditions-append line G W [] more = ap (λ n. step_conditions n G W more) (omega arith)
step_conditions-append line G W (s ∷ steps) more =
    let again = step_conditions-append (line + 1) G (split_of G W s) steps more in
    let e : line + 1 + length steps ≡ line + length (s ∷ steps) = omega arith in
    ap (λ cs. (line, names_cells W s) ∷ (line, has_parts G W s) ∷ cs)
    (again ∙ ap (λ n. step_conditions (line + 1) G (split_of G W s) steps ++ step_conditions n G (cells_after G (split_of G W s) steps) more) e)
