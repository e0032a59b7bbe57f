-- How a task ends.
use Rattle.std.specs.Prelude.{◌≡◌, ◌⊎◌, ℕ, List, Option}
use Rattle.scheme_io.specs.Count.{Rose}
use Rattle.scheme_io.specs.Files.{Files}
use Rattle.cohere_inputs.specs.declared.faults.Unread.{Unread}
use Rattle.cohere_inputs.specs.declared.faults.Unread.TheVariants.{Bad}
use Rattle.cohere_inputs.specs.declared.faults.Unread.TheVariants as unread
use Rattle.cohere_inputs.specs.Task.{Task}
use Rattle.cohere_core.specs.declared.answering.SessionFault.{SessionFault}
use Rattle.cohere_core.specs.declared.answering.SessionFault.TheVariants as faults
use Rattle.cohere_core.specs.declared.status.Status.{Status}
use Rattle.cohere_core.specs.declared.status.Status.TheVariants.{BadInput, StoreFailed, SinkFailed, NoMemory}
use Rattle.cohere_core.specs.Run.{ErrorLineAfter, FirstBadIsMissing, FirstBadIsText, IsStatusWithoutFaults, LineAfter, MayAnswer, OutputAfter, status_of}

-- the status where a file was not read
abbrev pub halt_status : Unread → Status
halt_status (Bad fault) = status_of fault
halt_status unread.StoreFailed = StoreFailed
halt_status unread.NoMemory = NoMemory

-- the status where the answers were not written whole
abbrev pub fault_status : SessionFault → Status
fault_status faults.SinkFailed = SinkFailed
fault_status faults.NoMemory = NoMemory

-- What holds where a task ends with a status. The store tells these files, and its count of faults rose; the count of the output rose;
-- the output was this, and is that; and what was added to the errors says this.
pub record IsEnding (files : Option Files) (task : Task) (status : Status) (rose failed : Type 0) (old new : Option (List ℕ)) (says : List ℕ → Type 0) : Type 0 where
  pub output : OutputAfter task status files old new
  pub line : LineAfter status says
  pub error_line : ErrorLineAfter task status files rose says
  pub may_answer : MayAnswer task status
  pub bad_input : status ≡ BadInput → FirstBadIsText files task
  pub store_failed : status ≡ StoreFailed → rose ⊎ FirstBadIsMissing files task
  pub sink_failed : status ≡ SinkFailed → failed
  pub complete : (rose → ⊥) → (failed → ⊥) → IsStatusWithoutFaults task status files

-- The same for a task for which no file is loaded: whatever the store tells, and whatever its counts of faults.
abbrev pub IsEndingWithoutFiles : Task → Status → Type 0 → Option (List ℕ) → Option (List ℕ) → (List ℕ → Type 0) → Type 0
IsEndingWithoutFiles task status failed old new says = (files : Option Files) (before now : ℕ) → IsEnding files task status (Rose before now) failed old new says
