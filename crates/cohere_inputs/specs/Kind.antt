-- What a file that is loaded must hold.
use Rattle.std.specs.Prelude.{ℕ}
use Rattle.relation_text.specs.declared.reading.TheConstants.{MOST_RELATION}
use Rattle.script_text.specs.declared.limits.TheConstants.{MOST_SCRIPT}
use Rattle.trace_text.specs.declared.limits.TheConstants.{MOST_TRACE}
use Rattle.equitable.specs.declared.limits.TheConstants.{MOST_CELL_TEXT}

-- each kind of text has its case
pub data Kind : Type 0 where
  -- a relation that begins on this line
  Relation : ℕ → Kind
  -- a script
  Script : Kind
  -- a trace
  Trace : Kind
  -- a trace of cells
  CellTrace : Kind

-- the most bytes of such a file
abbrev pub limit_of : Kind → ℕ
limit_of (Relation line) = MOST_RELATION
limit_of Script = MOST_SCRIPT
limit_of Trace = MOST_TRACE
limit_of CellTrace = MOST_CELL_TEXT
