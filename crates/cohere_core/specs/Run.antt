-- What holds after a call of the program: what it answers, and what it adds to its output and to its errors.
-- Where the forms of words differ, `Forms` has a case for each.
use Rattle.std.specs.Prelude.{◌≡◌, ◌≢◌, ◌⊎◌, ℕ, List, Option, Some, None, IfSome, IsSomeAnd, ⊤}
use Rattle.std.specs.Io.KnownBytes.{Keeps}
use Rattle.scheme_io.specs.Files.{Files, IsMissing}
use Rattle.cohere_inputs.specs.declared.faults.FileFault.{FileFault}
use Rattle.cohere_inputs.specs.declared.faults.FileFault.TheVariants.{Missing}
use Rattle.cohere_inputs.specs.Task.{Task}
use Rattle.cohere_inputs.specs.Needs.{Need}
use Rattle.cohere_inputs.specs.Texts.{CanBe}
use Rattle.cohere_inputs.specs.Bad.{IsFault, IsFirstBad, NoneIsBad}
use Rattle.cohere_inputs.specs.Unread.{ComesTo}
use Rattle.cohere_inputs.specs.Lines.{usage_line, memory_line, unread_line, fault_line}
use Rattle.cohere_core.specs.declared.status.Status.{Status}
use Rattle.cohere_core.specs.declared.status.Status.TheVariants.{Done, CheckedNo, Usage, BadInput, StoreFailed, SinkFailed, NoMemory}
use Rattle.cohere_core.specs.Added.{AddsFront, AddsProperFront, AddsText}
use Rattle.cohere_core.specs.Forms.{IfNothingIsLoaded, IfTold, IsOutputOf, IsSomeOutputOf, IsWholeStatus, Judges, LoadsFiles}

-- ---- the status and the output

-- a task may be answered by this status: CheckedNo where it judges a claim, and the causes that lie in files where it loads some
abbrev pub MayAnswer : Task → Status → Type 0
MayAnswer task CheckedNo = Judges task
MayAnswer task Usage = ⊥
MayAnswer task BadInput = LoadsFiles task
MayAnswer task StoreFailed = LoadsFiles task
MayAnswer task _ = ⊤

-- a front of an output was added where no file is bad, and nothing where one is
pub record AddsFrontOrNothing (files : Files) (task : Task) (old new : Option (List ℕ)) : Type 0 where
  pub front : NoneIsBad files task → AddsFront (IsSomeOutputOf files task) old new
  pub nothing : (need : Need) (fault : FileFault) → IsFirstBad files task need fault → Keeps old new

-- what was added to the output after this status, over these files: a whole output that the status says; a front of an output;
-- or nothing
abbrev pub AddsAfter : Files → Task → Status → Option (List ℕ) → Option (List ℕ) → Type 0
AddsAfter files task Done old new = NoneIsBad files task × AddsText (IsOutputOf files task Done) old new
AddsAfter files task CheckedNo old new = NoneIsBad files task × AddsText (IsOutputOf files task CheckedNo) old new
AddsAfter files task Usage old new = ⊥
AddsAfter files task BadInput old new = Keeps old new
AddsAfter files task StoreFailed old new = Keeps old new
AddsAfter files task SinkFailed old new = NoneIsBad files task × AddsProperFront (IsSomeOutputOf files task) old new
AddsAfter files task NoMemory old new = AddsFrontOrNothing files task old new

-- and so where the store tells its files
abbrev pub OutputAfter : Task → Status → Option Files → Option (List ℕ) → Option (List ℕ) → Type 0
OutputAfter task status files old new = IfTold task files (λ given. AddsAfter given task status old new)

-- the fact, where no file is loaded for what the words ask for
abbrev pub IfNothingIsLoadedFor : Option Task → Type 0 → Type 0
IfNothingIsLoadedFor None fact = fact
IfNothingIsLoadedFor (Some task) fact = IfNothingIsLoaded task fact

-- before this status the output is not touched
abbrev pub IsBeforeOutput : Status → Type 0
IsBeforeOutput Usage = ⊤
IsBeforeOutput BadInput = ⊤
IsBeforeOutput StoreFailed = ⊤
IsBeforeOutput _ = ⊥

-- ---- the lines on standard error

-- after this status nothing is said
abbrev pub IsQuiet : Status → Type 0
IsQuiet Done = ⊤
IsQuiet CheckedNo = ⊤
IsQuiet SinkFailed = ⊤
IsQuiet _ = ⊥

-- The line names a file to which loading came, and why it is bad, a reason of its kind.
-- Where the store tells its files, it is the first bad one, and that is why it is bad.
pub record SaysBad (files : Option Files) (task : Task) (says : List ℕ → Type 0) : Type 0 where
  pub need : Need
  pub fault : FileFault
  pub text : fault ≢ Missing
  pub form : CanBe need.kind fault
  pub line : says (fault_line need.name fault)
  pub reached : ComesTo files task need
  pub bad : IfSome files (λ files. IsFault files need fault)

-- the line names a file to which loading came, and which could not be read: the store failed, or it tells its files and the file is not there
pub record SaysUnread (files : Option Files) (task : Task) (rose : Type 0) (says : List ℕ → Type 0) : Type 0 where
  pub need : Need
  pub line : says (unread_line need.name)
  pub reached : ComesTo files task need
  pub unread : rose ⊎ IsMissing files need.name

-- what is said after this status; rose: the store's faults rose
abbrev pub ErrorLineAfter : Task → Status → Option Files → Type 0 → (List ℕ → Type 0) → Type 0
ErrorLineAfter task BadInput files rose says = SaysBad files task says
ErrorLineAfter task StoreFailed files rose says = SaysUnread files task rose says
ErrorLineAfter task _ files rose says = ⊤

-- what is said after this status, whatever the words ask for
abbrev pub LineAfter : Status → (List ℕ → Type 0) → Type 0
LineAfter Usage says = says usage_line
LineAfter NoMemory says = says memory_line
LineAfter _ says = ⊤

-- ---- the causes

-- the status of a task that is stopped by this
abbrev pub status_of : FileFault → Status
status_of Missing = StoreFailed
status_of _ = BadInput

-- the files decide the status, unless memory is wanting: where no file is bad, as the output does, and else by the first bad one
pub record IsDecided (files : Files) (task : Task) (status : Status) : Type 0 where
  pub good : NoneIsBad files task → IsWholeStatus files task status ⊎ (status ≡ NoMemory)
  pub bad : (need : Need) (fault : FileFault) → IsFirstBad files task need fault → (status ≡ status_of fault) ⊎ (status ≡ NoMemory)

-- the status where no count of faults rose
abbrev pub IsStatusWithoutFaults : Task → Status → Option Files → Type 0
IsStatusWithoutFaults task status files = IfTold task files (λ given. IsDecided given task status)

-- the store tells its files, and the first bad one is not there
abbrev pub FirstBadIsMissing : Option Files → Task → Type 0
FirstBadIsMissing files task = IsSomeAnd files (λ files. (need : Need) × IsFirstBad files task need Missing)

-- where the store tells its files, the first bad one is there, and its text is bad
abbrev pub FirstBadIsText : Option Files → Task → Type 0
FirstBadIsText files task = IfSome files (λ files. (need : Need) × (fault : FileFault) × (fault ≢ Missing) × IsFirstBad files task need fault)
