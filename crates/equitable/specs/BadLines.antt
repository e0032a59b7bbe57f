-- What a claim has to meet line by line, and its first bad line.
use Rattle.std.specs.Prelude.{◌≡◌, ℕ, ◌+◌, List, [], ◌∷◌, ◌++◌, length}
use Rattle.std.specs.List.{AllByRecursion}
use Rattle.pair_colours.specs.Colouring.{PairColouring}
use Rattle.equitable.specs.declared.check_words.CellCheck.{CellCheck}
use Rattle.equitable.specs.declared.check_words.CellCheck.TheVariants.{NoSuchCell, IdleStep, NotEquitable, WrongCells}
use Rattle.equitable.specs.declared.cell_steps.CellStep.{CellStep}
use Rattle.equitable.specs.declared.cell_claims.CellClaim.{CellClaim}
use Rattle.equitable.specs.Equitable.{IsEquitable, numbered}
use Rattle.equitable.specs.CellSplit.{NamesCells, HasParts, split_of}
use Rattle.equitable.specs.Acceptance.{one_cell, last_cells}

-- what has to hold at a line: a step names cells of the partition before it, and parts one;
-- the last partition is equitable, and the claimed cells are its numbering
pub data Condition : Type 0 where
  names_cells : List ℕ → CellStep → Condition
  has_parts : PairColouring → List ℕ → CellStep → Condition
  ends_equitable : PairColouring → List ℕ → Condition
  names_end : List ℕ → List ℕ → Condition

-- the condition holds
abbrev pub Holds : Condition → Type 0
Holds (names_cells W s) = NamesCells W s
Holds (has_parts G W s) = HasParts G W s
Holds (ends_equitable G W) = IsEquitable G W
Holds (names_end cells W) = cells ≡ numbered W

-- the word for a condition that does not hold
abbrev pub word_of : Condition → CellCheck
word_of (names_cells W s) = NoSuchCell
word_of (has_parts G W s) = IdleStep
word_of (ends_equitable G W) = NotEquitable
word_of (names_end cells W) = WrongCells

-- the conditions on steps from W on, the first of which stands on this line
abbrev pub step_conditions : ℕ → PairColouring → List ℕ → List CellStep → List (ℕ × Condition)
step_conditions line G W [] = []
step_conditions line G W (s ∷ steps) = (line, names_cells W s) ∷ (line, has_parts G W s) ∷ step_conditions (line + 1) G (split_of G W s) steps

-- the first step stands after the head, the number of points and the rows of arcs
abbrev pub first_step_line : CellClaim → ℕ
first_step_line claim = 3 + claim.arcs.size

-- the line `cells`, after the steps
abbrev pub cells_line : CellClaim → ℕ
cells_line claim = first_step_line claim + length claim.steps

-- how many lines the text of the claim has: the row of the claimed cells and the line `end` follow
abbrev pub line_count : CellClaim → ℕ
line_count claim = cells_line claim + 2

-- the conditions on the end
abbrev pub end_conditions : ℕ → PairColouring → List ℕ → List ℕ → List (ℕ × Condition)
end_conditions line G W cells = (line, ends_equitable G W) ∷ (line, names_end cells W) ∷ []

-- all conditions on a claim, in the order of their lines
abbrev pub conditions : CellClaim → List (ℕ × Condition)
conditions claim =
    step_conditions (first_step_line claim) claim.arcs (one_cell claim.arcs.size) claim.steps
    ++ end_conditions (cells_line claim) claim.arcs (last_cells claim) claim.cells

-- all of the conditions hold
abbrev pub AllHold : List (ℕ × Condition) → Type 0
AllHold listed = AllByRecursion (λ at. Holds at.1) listed

-- the first of the conditions that does not hold stands on this line, and this is its word
pub record IsFirstFailing (listed : List (ℕ × Condition)) (line : ℕ) (word : CellCheck) : Type 0 where
  pub before : List (ℕ × Condition)
  pub condition : Condition
  pub rest : List (ℕ × Condition)
  pub parts : listed ≡ before ++ (line, condition) ∷ rest
  pub hold : AllHold before
  pub fails : ¬ Holds condition
  pub says : word_of condition ≡ word

-- the first bad line of the claim's text, with its first word
abbrev pub IsFirstBadLine : CellClaim → ℕ → CellCheck → Type 0
IsFirstBadLine claim line word = IsFirstFailing (conditions claim) line word
