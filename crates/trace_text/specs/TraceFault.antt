-- The first line of a text that may not stand in its place in a trace.
use Rattle.std.specs.Prelude.{ℕ, suc, zero, ◌+◌, ◌==◌, ◌&&◌, ◌||◌, Bool, false, List, [], ◌∷◌, map, codes, bytes_eq, Option, None, Some, if◌then◌else◌}
use Rattle.text_lines.specs.Lines.{lines_of}
use Rattle.pair_colours.specs.declared.coloured_pairs.TheConstants.{MOST_COLOUR}
use Rattle.trace_text.specs.declared.limits.TheConstants.{MOST_STEP_NUMBER}
use Rattle.trace_text.specs.declared.trace_faults.TraceWord.{TraceWord}
use Rattle.trace_text.specs.declared.trace_faults.TraceWord.TheVariants.{Head, Points, Stage, Row, Body, End, Extra}
use Rattle.text_lines.specs.LineNumbers.{between_spaces, are_numbers}
use Rattle.text_lines.specs.PointsLine.{points_on}

-- what is expected: the first line; then, for a version, the number of points; then, for n points too, the first stage,
-- a row of a stage or of the closure, after which so many more are to come; a step, a stage or the closure; the last line; nothing
pub data Place : Type 0 where
  at_head : Place
  at_points : ℕ → Place
  at_stage : ℕ → ℕ → Place
  at_row : ℕ → ℕ → ℕ → Place
  at_body : ℕ → ℕ → Place
  at_closure_row : ℕ → ℕ → Place
  at_end : Place
  at_extra : Place

-- the word for what is expected
abbrev pub word_at : Place → TraceWord
word_at at_head = Head
word_at (at_points version) = Points
word_at (at_stage version n) = Stage
word_at (at_row version n more) = Row
word_at (at_body version n) = Body
word_at (at_closure_row n more) = Row
word_at at_end = End
word_at at_extra = Extra

-- a row of n raw colours
abbrev pub is_row_line : ℕ → List ℕ → Bool
is_row_line n line = are_numbers MOST_COLOUR n (between_spaces line)

-- a letter, and so many numbers
abbrev pub is_lettered : List ℕ → ℕ → List (List ℕ) → Bool
is_lettered letter n [] = false
is_lettered letter n (word ∷ words) = bytes_eq word letter && are_numbers MOST_STEP_NUMBER n words

-- a step line of a version
abbrev pub is_step_line : ℕ → List ℕ → Bool
is_step_line version line =
    let words = between_spaces line in
    is_lettered (codes "D") 1 words || is_lettered (codes "F") 2 words || is_lettered (codes "T") 3 words || (is_lettered (codes "R") 0 words && (version == 2))

-- `trace` and a version
abbrev pub version_on : List ℕ → Option ℕ
version_on line = if bytes_eq line (codes "trace 1") then Some 1 else (if bytes_eq line (codes "trace 2") then Some 2 else None)

-- what is expected where so many rows of a stage are to come
abbrev pub next_row : ℕ → ℕ → ℕ → Place
next_row version n zero = at_body version n
next_row version n (suc more) = at_row version n more

-- and of the closure
abbrev pub next_closure_row : ℕ → ℕ → Place
next_closure_row n zero = at_end
next_closure_row n (suc more) = at_closure_row n more

-- the number of points is expected after the version
abbrev pub versioned : Option ℕ → Option Place
versioned None = None
versioned (Some version) = Some (at_points version)

-- the first stage is expected after the number of points
abbrev pub sized : ℕ → Option ℕ → Option Place
sized version None = None
sized version (Some n) = Some (at_stage version n)

-- what is expected after this line, if the line may stand there
abbrev pub next_place : Place → List ℕ → Option Place
next_place at_head line = versioned (version_on line)
next_place (at_points version) line = sized version (points_on line)
next_place (at_stage version n) line = if bytes_eq line (codes "stage") then Some (next_row version n n) else None
next_place (at_row version n more) line = if is_row_line n line then Some (next_row version n more) else None
next_place (at_body version n) line =
    if bytes_eq line (codes "stage") then Some (next_row version n n)
    else (if bytes_eq line (codes "closure") then Some (next_closure_row n n)
    else (if is_step_line version line then Some (at_body version n) else None))
next_place (at_closure_row n more) line = if is_row_line n line then Some (next_closure_row n more) else None
next_place at_end line = if bytes_eq line (codes "end") then Some at_extra else None
next_place at_extra line = None

-- the fault of a text that ends here: it is on the line after its last
abbrev pub fault_at_end : ℕ → Place → Option (ℕ × TraceWord)
fault_at_end line at_extra = None
fault_at_end line place = Some (line, word_at place)

-- the fault of a line that may not stand in its place, or one of those after it
abbrev pub fault_on : ℕ → Place → Option Place → (Place → Option (ℕ × TraceWord)) → Option (ℕ × TraceWord)
fault_on line place None later = Some (line, word_at place)
fault_on line place (Some next) later = later next

-- the first of the lines from here on that may not stand in its place, with the word for what was expected
abbrev pub fault_from : ℕ → Place → List (List ℕ) → Option (ℕ × TraceWord)
fault_from line place [] = fault_at_end line place
fault_from line place (bytes ∷ rest) = fault_on line place (next_place place bytes) (λ next. fault_from (line + 1) next rest)

-- the fault of a text, if it is no trace
abbrev pub trace_fault : List ℕ → Option (ℕ × TraceWord)
trace_fault text = fault_from 1 at_head (map (λ part. part.bytes) (lines_of text))
