-- What the parts of the reader say: the lines that are left, and what was read of them.
use Rattle.std.specs.Prelude.{◌≡◌, ℕ, suc, zero, ◌+◌, ◌∷◌, [], List, Option, None, Some, codes, ⊤, if◌then◌else◌}
use Rattle.trace_text.specs.declared.trace_faults.TraceWord.{TraceWord}
use Rattle.trace_text.specs.declared.trace_faults.TraceFault.{TraceFault}
use Rattle.trace_text.specs.declared.trace_faults.TraceFault.TheVariants.{Text, NoMemory}
use Rattle.trace_text.specs.TraceFault.{Place, is_row_line, next_row, next_closure_row}
use Rattle.trace_text.specs.declared.reader.After.{After}
use Rattle.trace_text.specs.declared.reader.After.TheVariants.{Stage, Closure}

-- an answer that is not want of memory tells this fault
abbrev pub IsFaultOf : TraceFault → Option (ℕ × TraceWord) → Type 0
IsFaultOf (Text line what) fault = fault ≡ Some (line, what)
IsFaultOf NoMemory fault = ⊤

-- the line that ends the steps of a stage
abbrev pub after_line : After → List ℕ
after_line Stage = codes "stage"
after_line Closure = codes "closure"

-- what is expected after it
abbrev pub after_place : ℕ → ℕ → After → Place
after_place version n Stage = next_row version n n
after_place version n Closure = next_closure_row n n

-- the line of the first of so many rows that is none
abbrev pub rows_fault : ℕ → ℕ → ℕ → List (List ℕ) → Option ℕ
rows_fault n zero line lines = None
rows_fault n (suc more) line [] = Some line
rows_fault n (suc more) line (bytes ∷ rest) = if is_row_line n bytes then rows_fault n more (line + 1) rest else Some line
