-- Laws over the definitions alone.
use Rattle.std.specs.Prelude.{◌≡◌, ◌⊎◌, ℕ, ◌<◌, ◌≤◌, List, length, None, MatchOption}
use Rattle.pair_colours.specs.Colouring.{PairColouring, IsColouring, FitsColouring}
use Rattle.pair_colours.specs.Closure.{IsClosureOf}
use Rattle.equitable.specs.declared.check_words.CellCheck.{CellCheck}
use Rattle.equitable.specs.declared.cell_claims.CellClaim.{CellClaim}
use Rattle.equitable.specs.declared.cell_steps.CellStep.{CellStep}
use Rattle.equitable.specs.declared.limits.TheConstants.{MOST_CELL_TEXT}
use Rattle.equitable.specs.Equitable.{IsCells, LiesOverFibres, cell_count}
use Rattle.equitable.specs.CellSplit.{AreAllowed, cells_after}
use Rattle.equitable.specs.Cells.{UsesBelow}
use Rattle.equitable.specs.Arcs.{HasArcsOf, IsArcSet, IsArcs, arcs_of}
use Rattle.equitable.specs.Acceptance.{AcceptsCells, one_cell}
use Rattle.equitable.specs.BadLines.{IsFirstBadLine, line_count}
use Rattle.equitable.specs.CellText.{cell_text}
use Rattle.equitable.specs.TextFault.{cell_text_fault}
use Rattle.equitable.specs.ClaimText.{HasCellText, IsCellText}

-- an accepted claim shows the coarsest equitable partition of its arcs
abbrev pub AcceptedAreCells : Type 0
AcceptedAreCells = (claim : CellClaim) → AcceptsCells claim → IsCells claim.arcs claim.cells

-- all arcs have an accepted claim
abbrev pub AcceptedExists : Type 0
AcceptedExists = (G : PairColouring) → IsArcs G → (claim : CellClaim) × (claim.arcs ≡ G) × AcceptsCells claim

-- a list of numbers is a set that chooses classes, or it is not
abbrev pub ArcSetOrNot : Type 0
ArcSetOrNot = (C : PairColouring) → IsColouring C → (set : List ℕ) → IsArcSet C set ⊎ ¬ IsArcSet C set

-- a digraph has one coarsest equitable partition that is numbered by first occurrence
abbrev pub CellsAreUnique : Type 0
CellsAreUnique = (G : PairColouring) (V W : List ℕ) → IsCells G V → IsCells G W → V ≡ W

-- each fibre of the closure lies in one cell
abbrev pub FibresLieInCells : Type 0
FibresLieInCells = (C K G : PairColouring) (set W : List ℕ) → IsClosureOf K C → HasArcsOf C set G → IsCells G W → LiesOverFibres K W

-- the colouring that has the arcs of a set has the numbers 0 and 1 only, and is within the limit of points where the relation is
abbrev pub ArcsOfSetsAreArcs : Type 0
ArcsOfSetsAreArcs = (C : PairColouring) (set : List ℕ) → FitsColouring C → IsArcs (arcs_of C set)

-- and its arcs are those of the set
abbrev pub ArcsOfSetsAreTheirs : Type 0
ArcsOfSetsAreTheirs = (C : PairColouring) (set : List ℕ) → IsColouring C → HasArcsOf C set (arcs_of C set)

-- a claim is accepted, or has a first bad line
abbrev pub VerdictExists : Type 0
VerdictExists = (claim : CellClaim) → AcceptsCells claim ⊎ ((line : ℕ) × (word : CellCheck) × IsFirstBadLine claim line word)

-- and not both
abbrev pub AcceptedHasNone : Type 0
AcceptedHasNone = (claim : CellClaim) (line : ℕ) (word : CellCheck) → AcceptsCells claim → ¬ IsFirstBadLine claim line word

-- and only one such line, with one word
abbrev pub FirstBadLineIsUnique : Type 0
FirstBadLineIsUnique = (claim : CellClaim) (line line2 : ℕ) (word word2 : CellCheck)
    → IsFirstBadLine claim line word → IsFirstBadLine claim line2 word2 → (line ≡ line2) × (word ≡ word2)

-- where a text has no fault some claim is read, and where it has one there is none
abbrev pub CellTextReadsOrFails : Type 0
CellTextReadsOrFails = (text : List ℕ) → MatchOption (cell_text_fault text)
    ((claim : CellClaim) × IsCellText text claim)
    (λ _. (claim : CellClaim) → ¬ IsCellText text claim)

-- a text that is read has no fault
abbrev pub ReadingHasNoFault : Type 0
ReadingHasNoFault = (text : List ℕ) (claim : CellClaim) → IsCellText text claim → cell_text_fault text ≡ None

-- a text is read as one claim at most
abbrev pub ReadingIsUnique : Type 0
ReadingIsUnique = (text : List ℕ) (claim other : CellClaim) → IsCellText text claim → IsCellText text other → claim ≡ other

-- the text of a claim that has one is read as that claim
abbrev pub TextIsReadBack : Type 0
TextIsReadBack = (claim : CellClaim) → HasCellText claim → IsCellText (cell_text claim) claim

-- two claims with one text are equal
abbrev pub TextIsOfOneClaim : Type 0
TextIsOfOneClaim = (claim other : CellClaim) → HasCellText claim → HasCellText other → cell_text claim ≡ cell_text other → claim ≡ other

-- an accepted claim has a text, where its arcs have the numbers 0 and 1 only
abbrev pub AcceptedHasText : Type 0
AcceptedHasText = (claim : CellClaim) → IsArcs claim.arcs → AcceptsCells claim → HasCellText claim

-- an accepted claim has fewer steps than points
abbrev pub AcceptedHasFewSteps : Type 0
AcceptedHasFewSteps = (claim : CellClaim) → 1 ≤ claim.arcs.size → AcceptsCells claim → length claim.steps < claim.arcs.size

-- so its text is within the limit
abbrev pub AcceptedTextFits : Type 0
AcceptedTextFits = (claim : CellClaim) → IsArcs claim.arcs → AcceptsCells claim → length (cell_text claim) ≤ MOST_CELL_TEXT

-- a claim that is read has no more lines than its text has bytes
abbrev pub ReadingHasFewLines : Type 0
ReadingHasFewLines = (text : List ℕ) (claim : CellClaim) → IsCellText text claim → line_count claim ≤ length text

-- after steps that may be made from one cell on, the numbers of cells are those below their count:
-- so a step names cells that are there exactly where its numbers are below it
abbrev pub StepsKeepNumbers : Type 0
StepsKeepNumbers = (G : PairColouring) (steps : List CellStep) → 1 ≤ G.size → AreAllowed G (one_cell G.size) steps
    → UsesBelow (cells_after G (one_cell G.size) steps) (cell_count (cells_after G (one_cell G.size) steps))
