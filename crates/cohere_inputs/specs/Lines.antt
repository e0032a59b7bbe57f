-- The lines on standard error.
use Rattle.std.specs.Prelude.{ℕ, List, ◌++◌, codes, decimal}
use Rattle.cohere_inputs.specs.declared.faults.FileFault.{FileFault}
use Rattle.cohere_inputs.specs.declared.faults.FileFault.TheVariants.{Missing, TooLong, Relation, Script, Trace, CellTrace}
use Rattle.cohere_inputs.specs.declared.faults.Unread.{Unread}
use Rattle.cohere_inputs.specs.declared.faults.Unread.TheVariants.{Bad, StoreFailed, NoMemory}
use Rattle.relation_text.specs.RelationWord.{relation_word}
use Rattle.script_text.specs.ScriptWord.{script_word}
use Rattle.trace_text.specs.TraceWord.{trace_word}
use Rattle.equitable.specs.TextWord.{text_word}

abbrev pub usage_line : List ℕ
usage_line =
    codes "usage: cohere run RELATION SCRIPT [LINE] | cohere check TRACE | cohere demo NUMBER"
    ++ codes " | cohere ring TABLE COLOUR... | cohere cells RELATION COLOUR... | cohere check-cells TRACE"
    ++ codes " | cohere table D NUMBER... | cohere lattice RELATION [I J]\n"

abbrev pub memory_line : List ℕ
memory_line = codes "cohere: out of memory\n"

abbrev pub unread_line : List ℕ → List ℕ
unread_line name = codes "cohere: cannot read " ++ name ++ codes "\n"

abbrev pub too_long_line : List ℕ → List ℕ
too_long_line name = codes "cohere: " ++ name ++ codes ": TooLong\n"

-- a fault at a byte of the text, and a fault on a line of the text
abbrev pub place_line : List ℕ → List ℕ → ℕ → List ℕ
place_line name word place = codes "cohere: " ++ name ++ codes ": " ++ word ++ codes " at " ++ decimal place ++ codes "\n"

abbrev pub numbered_line : List ℕ → ℕ → List ℕ → List ℕ
numbered_line name line word = codes "cohere: " ++ name ++ codes ": line " ++ decimal line ++ codes " " ++ word ++ codes "\n"

-- what is said of a file with this fault
abbrev pub fault_line : List ℕ → FileFault → List ℕ
fault_line name Missing = unread_line name
fault_line name TooLong = too_long_line name
fault_line name (Relation what at) = place_line name (relation_word what) at
fault_line name (Script line what) = numbered_line name line (script_word what)
fault_line name (Trace line what) = numbered_line name line (trace_word what)
fault_line name (CellTrace line what) = numbered_line name line (text_word what)

-- what is said of a file that was not read
abbrev pub halt_line : List ℕ → Unread → List ℕ
halt_line name (Bad fault) = fault_line name fault
halt_line name StoreFailed = unread_line name
halt_line name NoMemory = memory_line
