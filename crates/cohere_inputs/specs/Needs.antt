-- The files that are loaded for a task.
use Rattle.std.specs.Prelude.{ℕ, List, [], ◌∷◌, map}
use Rattle.script_text.specs.declared.acts.Line.{Line}
use Rattle.cohere_inputs.specs.Task.{Task, Run, Check, Demo, Ask, CheckCells, Table}
use Rattle.cohere_inputs.specs.Kind.{Kind}
use Rattle.cohere_inputs.specs.Kind as kinds
use Rattle.cohere_inputs.specs.Products.{products_of}

-- a file that is loaded: its name, and what it must hold
pub record Need : Type 0 where
  pub name : List ℕ
  pub kind : Kind

-- the relation at a line of this file, the script in this file, the trace in this file, and the trace of cells in this file
abbrev pub relation_need : List ℕ → ℕ → Need
relation_need name line = record { name = name; kind = kinds.Relation line }

abbrev pub script_need : List ℕ → Need
script_need name = record { name = name; kind = kinds.Script }

abbrev pub trace_need : List ℕ → Need
trace_need name = record { name = name; kind = kinds.Trace }

abbrev pub cell_trace_need : List ℕ → Need
cell_trace_need name = record { name = name; kind = kinds.CellTrace }

-- the files that the words name, in the order in which they are loaded
abbrev pub named_files : Task → List Need
named_files (Run run) = relation_need run.relation run.line ∷ script_need run.script ∷ []
named_files (Check trace) = trace_need trace ∷ []
named_files (Demo number) = []
named_files (Ask words) = relation_need words.relation 1 ∷ []
named_files (CheckCells trace) = cell_trace_need trace ∷ []
named_files (Table words) = []

-- the files by which the lines of a script multiply, in order: each must hold a relation at line 1
abbrev pub product_needs : List Line → List Need
product_needs lines = map (λ name. relation_need name 1) (products_of lines)
