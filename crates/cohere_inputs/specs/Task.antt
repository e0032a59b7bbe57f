-- What the words of the program ask for.
use Rattle.std.specs.Prelude.{ℕ, ◌≤◌, List, ⊤}
use Rattle.array_tables.specs.Parameters.{array_of}
use Rattle.array_tables.specs.Kept.{FitsArray}

-- a run: the names of the files of the relation and of the script, and the line of its file on which the relation begins
pub record RunWords : Type 0 where
  pub relation : List ℕ
  pub script : List ℕ
  pub line : ℕ

-- what can be asked of one relation
pub data Question : Type 0 where
  -- the relation is a table of products: the Schur ring of the elements with these colours
  Ring : List ℕ → Question
  -- the coarsest equitable partition of the arcs with these colours
  Cells : List ℕ → Question
  -- the lattice of the fusions of its closure
  Lattice : Question
  -- the coarsest common refinement of two of these fusions
  Common : ℕ → ℕ → Question

-- a question: the name of the relation's file, and what is asked
pub record AskWords : Type 0 where
  pub relation : List ℕ
  pub question : Question

-- an intersection array: its numbers b, and its numbers c
pub record TableWords : Type 0 where
  pub b : List ℕ
  pub c : List ℕ

-- each form of words has its case; the name of a file is the bytes of its word
pub data Task : Type 0 where
  -- answers a script over a relation
  Run : RunWords → Task
  -- judges the trace in the file of this name
  Check : List ℕ → Task
  -- answers the lines of the demonstration over the relation of this number
  Demo : ℕ → Task
  -- answers a question about a relation
  Ask : AskWords → Task
  -- judges the claim of cells in the file of this name
  CheckCells : List ℕ → Task
  -- tells the parameters of an intersection array
  Table : TableWords → Task

-- what is known of a task that was asked for
abbrev pub IsAsked : Task → Type 0
IsAsked (Run run) = 1 ≤ run.line
IsAsked (Table words) = FitsArray (array_of words.b words.c)
IsAsked _ = ⊤
