-- How the faults of traces are named.
use Rattle.std.specs.Prelude.{ℕ, List, codes}
use Rattle.trace_text.specs.declared.trace_faults.TraceWord.{TraceWord}
use Rattle.trace_text.specs.declared.trace_faults.TraceWord.TheVariants.{Head, Points, Stage, Row, Body, End, Extra}

-- the word of a fault is the name of its variant
abbrev pub trace_word : TraceWord → List ℕ
trace_word Head = codes "Head"
trace_word Points = codes "Points"
trace_word Stage = codes "Stage"
trace_word Row = codes "Row"
trace_word Body = codes "Body"
trace_word End = codes "End"
trace_word Extra = codes "Extra"
