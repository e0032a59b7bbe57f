-- What it takes that a claim is accepted.
use Rattle.std.specs.Prelude.{◌≡◌, ℕ, List, replicate}
use Rattle.pair_colours.specs.Colouring.{PairColouring}
use Rattle.equitable.specs.declared.cell_claims.CellClaim.{CellClaim}
use Rattle.equitable.specs.Equitable.{IsEquitable, numbered}
use Rattle.equitable.specs.CellSplit.{AreAllowed, HasFollowed, cells_after}
use Rattle.equitable.specs.declared.cell_steps.CellStep.{CellStep}

-- n points in one cell
abbrev pub one_cell : ℕ → List ℕ
one_cell n = replicate n 0

-- the steps may be made, and lead from the partition with one cell to X
abbrev pub IsReached : PairColouring → List ℕ → List CellStep → Type 0
IsReached G X steps = HasFollowed G (one_cell G.size) X steps

-- the partition where the steps of a claim end
abbrev pub last_cells : CellClaim → List ℕ
last_cells claim = cells_after claim.arcs (one_cell claim.arcs.size) claim.steps

-- each step may be made, from the partition with one cell on; the last partition is equitable; and the claimed cells are its own, numbered by first occurrence
pub record AcceptsCells (claim : CellClaim) : Type 0 where
  pub steps : AreAllowed claim.arcs (one_cell claim.arcs.size) claim.steps
  pub equitable : IsEquitable claim.arcs (last_cells claim)
  pub named : claim.cells ≡ numbered (last_cells claim)
