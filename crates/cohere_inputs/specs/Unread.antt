-- Why a file was not read, and where loading stops.
use Rattle.std.specs.Prelude.{◌≡◌, ◌⊎◌, ◌≤◌, ℕ, List, length, Contains, Option, Some, None, IsSome, IfSome, ⊤}
use Rattle.scheme_io.specs.Files.{Files}
use Rattle.scheme_io.specs.declared.loading.LoadFault.{LoadFault}
use Rattle.scheme_io.specs.declared.loading.LoadFault.TheVariants as loads
use Rattle.relation_text.specs.declared.faults.RelationFault.{RelationFault}
use Rattle.relation_text.specs.declared.faults.RelationFault.TheVariants.{Text}
use Rattle.relation_text.specs.declared.faults.RelationFault.TheVariants as readings
use Rattle.script_text.specs.declared.faults.ScriptFault.{ScriptFault}
use Rattle.script_text.specs.declared.faults.ScriptFault.TheVariants as scripts
use Rattle.script_text.specs.Script.{IsScript}
use Rattle.script_text.specs.declared.acts.Line.{Line}
use Rattle.script_text.specs.declared.limits.TheConstants.{MOST_SCRIPT}
use Rattle.trace_text.specs.declared.trace_faults.TraceFault.{TraceFault}
use Rattle.trace_text.specs.declared.trace_faults.TraceFault.TheVariants as traces
use Rattle.equitable.specs.declared.text_faults.CellTextFault.{CellTextFault}
use Rattle.equitable.specs.declared.text_faults.CellTextFault.TheVariants as cells
use Rattle.cohere_inputs.specs.declared.faults.FileFault.TheVariants.{Missing, TooLong, Relation, Script, Trace, CellTrace}
use Rattle.cohere_inputs.specs.declared.faults.Unread.{Unread}
use Rattle.cohere_inputs.specs.declared.faults.Unread.TheVariants.{Bad, StoreFailed, NoMemory}
use Rattle.cohere_inputs.specs.Task.{Task, Run}
use Rattle.cohere_inputs.specs.Kind.{Kind}
use Rattle.cohere_inputs.specs.Needs.{Need, named_files, product_needs}
use Rattle.cohere_inputs.specs.Texts.{CanBe}
use Rattle.cohere_inputs.specs.Bad.{IsFault, IsReachedIn, IsReached}
use Rattle.cohere_inputs.specs.Lines.{halt_line}

-- what a fault of loading says of the file
abbrev pub unread_load : LoadFault → Unread
unread_load loads.NoFile = Bad Missing
unread_load loads.Failed = StoreFailed
unread_load (loads.TooLong taken) = Bad TooLong
unread_load loads.NoMemory = NoMemory

-- what a fault of reading says of a relation
abbrev pub unread_relation : RelationFault → Unread
unread_relation (Text what at) = Bad (Relation what at)
unread_relation readings.NoMemory = NoMemory

-- what a fault of reading says of a script
abbrev pub unread_script : ScriptFault → Unread
unread_script (scripts.Text line what) = Bad (Script line what)
unread_script scripts.NoMemory = NoMemory

-- what a fault of reading says of a trace
abbrev pub unread_trace : TraceFault → Unread
unread_trace (traces.Text line what) = Bad (Trace line what)
unread_trace traces.NoMemory = NoMemory

-- what a fault of reading says of a trace of cells
abbrev pub unread_cells : CellTextFault → Unread
unread_cells (cells.Text line what) = Bad (CellTrace line what)
unread_cells cells.NoMemory = NoMemory

-- why a file was not read, where rose says that the count of the store's faults rose: where the files are told, it is bad for this reason,
-- and only where they are told is it not there; or the count rose; or memory is wanting
abbrev pub IsCause : Option Files → Need → Unread → Type 0 → Type 0
IsCause files need (Bad fault) rose = IfSome files (λ files. IsFault files need fault) × (fault ≡ Missing → IsSome files)
IsCause files need StoreFailed rose = rose
IsCause files need NoMemory rose = ⊤

-- a file of this kind can be left unread for such a reason
abbrev pub IsUnreadAs : Kind → Unread → Type 0
IsUnreadAs kind (Bad fault) = CanBe kind fault
IsUnreadAs kind StoreFailed = ⊤
IsUnreadAs kind NoMemory = ⊤

-- loading came to this file of the list: where the files are told, none before it is bad
abbrev pub ComesToIn : Option Files → List Need → Need → Type 0
ComesToIn None needs need = Contains needs need
ComesToIn (Some files) needs need = IsReachedIn files needs need

-- some text within the limit of a script is a script of these lines
pub record IsSomeScript (lines : List Line) : Type 0 where
  pub text : List ℕ
  pub short : length text ≤ MOST_SCRIPT
  pub reads : IsScript text lines

-- some such script names this file as a product
abbrev pub IsProductOfSomeScript : Need → Type 0
IsProductOfSomeScript need = (lines : List Line) × IsSomeScript lines × Contains (product_needs lines) need

-- the file can be loaded for the task: the words name it, or a script could
abbrev pub CanBeLoaded : Task → Need → Type 0
CanBeLoaded (Run run) need = Contains (named_files (Run run)) need ⊎ IsProductOfSomeScript need
CanBeLoaded task need = Contains (named_files task) need

-- loading came to this file: it can be loaded for the task, and where the files are told, it is, and none that is loaded before it is bad
abbrev pub ComesTo : Option Files → Task → Need → Type 0
ComesTo None task need = CanBeLoaded task need
ComesTo (Some files) task need = IsReached files task need

-- loading these files, one after the other, stops at one of this name, for this reason
pub record HaltsIn (files : Option Files) (needs : List Need) (name : List ℕ) (why : Unread) (rose : Type 0) : Type 0 where
  pub need : Need
  pub is_named : name ≡ need.name
  pub reached : ComesToIn files needs need
  pub cause : IsCause files need why rose
  pub form : IsUnreadAs need.kind why

-- loading for the task stops at a file of this name, for this reason
pub record Halts (files : Option Files) (task : Task) (name : List ℕ) (why : Unread) (rose : Type 0) : Type 0 where
  pub need : Need
  pub is_named : name ≡ need.name
  pub reached : ComesTo files task need
  pub cause : IsCause files need why rose
  pub form : IsUnreadAs need.kind why

-- loading for the task stopped for this reason, and the line that was said names the file
pub record HaltsSaying (files : Option Files) (task : Task) (why : Unread) (rose : Type 0) (says : List ℕ → Type 0) : Type 0 where
  pub name : List ℕ
  pub halts : Halts files task name why rose
  pub line : says (halt_line name why)
