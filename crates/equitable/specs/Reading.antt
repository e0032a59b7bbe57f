-- What the parts of the reader say of faults.
use Rattle.std.specs.Prelude.{◌≡◌, ℕ, Option, Some, ⊤}
use Rattle.equitable.specs.declared.text_faults.CellWord.{CellWord}
use Rattle.equitable.specs.declared.text_faults.CellTextFault.{CellTextFault}
use Rattle.equitable.specs.declared.text_faults.CellTextFault.TheVariants.{Text, NoMemory}

-- an answer that is not want of memory tells this fault
abbrev pub IsFaultOf : CellTextFault → Option (ℕ × CellWord) → Type 0
IsFaultOf (Text line what) fault = fault ≡ Some (line, what)
IsFaultOf NoMemory fault = ⊤
