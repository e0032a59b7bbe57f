-- The first line of a text that may not stand in its place in the text of a claim.
use Rattle.std.specs.Prelude.{ℕ, suc, zero, ◌+◌, ◌&&◌, Bool, false, List, [], ◌∷◌, map, codes, bytes_eq, Option, None, Some, if◌then◌else◌}
use Rattle.text_lines.specs.Lines.{lines_of}
use Rattle.text_lines.specs.LineNumbers.{between_spaces, are_numbers, is_row_to}
use Rattle.text_lines.specs.PointsLine.{points_on}
use Rattle.equitable.specs.declared.limits.TheConstants.{MOST_CELL}
use Rattle.equitable.specs.declared.text_faults.CellWord.{CellWord}
use Rattle.equitable.specs.declared.text_faults.CellWord.TheVariants.{Head, Points, Row, Body, End, Extra}

-- what is expected: the first line; the number of points; then, for n points, a row of arcs, after which so many more are to come;
-- a step or the line `cells`; the row of the claimed cells; the last line; nothing
pub data Place : Type 0 where
  at_head : Place
  at_points : Place
  at_row : ℕ → ℕ → Place
  at_body : ℕ → Place
  at_cells : ℕ → Place
  at_end : Place
  at_extra : Place

-- the word for what is expected
abbrev pub word_at : Place → CellWord
word_at at_head = Head
word_at at_points = Points
word_at (at_row n more) = Row
word_at (at_body n) = Body
word_at (at_cells n) = Row
word_at at_end = End
word_at at_extra = Extra

-- the letter, and two numbers of cells
abbrev pub are_step_words : List (List ℕ) → Bool
are_step_words [] = false
are_step_words (word ∷ words) = bytes_eq word (codes "S") && are_numbers MOST_CELL 2 words

-- a step line
abbrev pub is_step_line : List ℕ → Bool
is_step_line line = are_step_words (between_spaces line)

-- what is expected where so many rows are to come
abbrev pub next_row : ℕ → ℕ → Place
next_row n zero = at_body n
next_row n (suc more) = at_row n more

-- the first row is expected after the number of points
abbrev pub sized : Option ℕ → Option Place
sized None = None
sized (Some n) = Some (next_row n n)

-- what is expected after this line, if the line may stand there
abbrev pub next_place : Place → List ℕ → Option Place
next_place at_head line = if bytes_eq line (codes "cells 1") then Some at_points else None
next_place at_points line = sized (points_on line)
next_place (at_row n more) line = if is_row_to 1 n line then Some (next_row n more) else None
next_place (at_body n) line = if bytes_eq line (codes "cells") then Some (at_cells n) else (if is_step_line line then Some (at_body n) else None)
next_place (at_cells n) line = if is_row_to MOST_CELL n line then Some at_end else None
next_place at_end line = if bytes_eq line (codes "end") then Some at_extra else None
next_place at_extra line = None

-- the fault of a text that ends here: it is on the line after its last
abbrev pub fault_at_end : ℕ → Place → Option (ℕ × CellWord)
fault_at_end line at_extra = None
fault_at_end line place = Some (line, word_at place)

-- the fault of a line that may not stand in its place, or one of those after it
abbrev pub fault_on : ℕ → Place → Option Place → (Place → Option (ℕ × CellWord)) → Option (ℕ × CellWord)
fault_on line place None later = Some (line, word_at place)
fault_on line place (Some next) later = later next

-- the first of the lines from here on that may not stand in its place, with the word for what was expected
abbrev pub fault_from : ℕ → Place → List (List ℕ) → Option (ℕ × CellWord)
fault_from line place [] = fault_at_end line place
fault_from line place (bytes ∷ rest) = fault_on line place (next_place place bytes) (λ next. fault_from (line + 1) next rest)

-- the fault of a text, if it is that of no claim
abbrev pub cell_text_fault : List ℕ → Option (ℕ × CellWord)
cell_text_fault text = fault_from 1 at_head (map (λ part. part.bytes) (lines_of text))
