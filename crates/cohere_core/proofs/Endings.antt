-- How a task ends: a file was not read, the whole output was written, or a fault came before.
use Rattle.std.proofs.Common.{◌≡◌, ℕ, List, Option, refl, inl, inr}
use Rattle.std.specs.Prelude.{⊤}
use Rattle.std.proofs.KnownBytes.{Appends-nil, Keeps-refl}
use Rattle.scheme_io.specs.Files.{Files}
use Rattle.cohere_inputs.specs.declared.faults.FileFault.TheVariants.{Missing, TooLong, Relation, Script, Trace, CellTrace}
use Rattle.cohere_inputs.specs.declared.faults.Unread.{Unread}
use Rattle.cohere_inputs.specs.declared.faults.Unread.TheVariants.{Bad, StoreFailed, NoMemory}
use Rattle.cohere_inputs.specs.Task.{Task}
use Rattle.cohere_inputs.specs.Bad.{NoneIsBad}
use Rattle.cohere_inputs.specs.Lines.{halt_line}
use Rattle.cohere_inputs.specs.Unread.{Halts}
use Rattle.cohere_inputs.proofs.LawProofs.{none_is_first}
use Rattle.cohere_core.specs.declared.answering.SessionFault.{SessionFault}
use Rattle.cohere_core.specs.declared.answering.SessionFault.TheVariants as faults
use Rattle.cohere_core.specs.declared.status.Status.{Status}
use Rattle.cohere_core.specs.declared.status.Status.TheVariants as statuses
use Rattle.cohere_core.specs.Added.{AddsText, AddsUntil}
use Rattle.cohere_core.specs.Ending.{IsEnding, fault_status, halt_status}
use Rattle.cohere_core.specs.Forms.{IfTold, IsOutputOf, IsSomeOutputOf, IsWholeStatus, LoadsFiles}
use Rattle.cohere_core.specs.Run.{AddsAfter, AddsFrontOrNothing, IsDecided, LineAfter, MayAnswer}
use Rattle.cohere_core.proofs.Halted.{halted_bad, halted_line, halted_status, halted_store}
use Rattle.cohere_core.proofs.Told.{told_all, told_follows, told_some}

-- ---- a file was not read

-- where no file is bad, the task has an output
abbrev pub HasOutputs : Task → Type 0
HasOutputs task = (given : Files) → NoneIsBad given task → (t : List ℕ) × IsSomeOutputOf given task t

-- nothing was added
nothing_yet : (given : Files) (task : Task) (w : Option (List ℕ)) → HasOutputs task → AddsFrontOrNothing given task w w
nothing_yet given task w outputs = record {
  front = λ good. let t = outputs given good in (t.0, 0, t.1, Appends-nil w);
  nothing = λ need fault bad. Keeps-refl w;
}

halted_adds : (given : Files) (task : Task) (why : Unread) (w : Option (List ℕ)) → HasOutputs task → AddsAfter given task (halt_status why) w w
halted_adds given task (Bad Missing) w outputs = Keeps-refl w
halted_adds given task (Bad TooLong) w outputs = Keeps-refl w
halted_adds given task (Bad (Relation what at)) w outputs = Keeps-refl w
halted_adds given task (Bad (Script line what)) w outputs = Keeps-refl w
halted_adds given task (Bad (Trace line what)) w outputs = Keeps-refl w
halted_adds given task (Bad (CellTrace line what)) w outputs = Keeps-refl w
halted_adds given task StoreFailed w outputs = Keeps-refl w
halted_adds given task NoMemory w outputs = nothing_yet given task w outputs

halted_says : (why : Unread) (name : List ℕ) (says : List ℕ → Type 0) → says (halt_line name why) → LineAfter (halt_status why) says
halted_says (Bad Missing) name says said = tt
halted_says (Bad TooLong) name says said = tt
halted_says (Bad (Relation what at)) name says said = tt
halted_says (Bad (Script line what)) name says said = tt
halted_says (Bad (Trace line what)) name says said = tt
halted_says (Bad (CellTrace line what)) name says said = tt
halted_says StoreFailed name says said = tt
halted_says NoMemory name says said = said

halted_may : (task : Task) (why : Unread) → LoadsFiles task → MayAnswer task (halt_status why)
halted_may task (Bad Missing) loads = loads
halted_may task (Bad TooLong) loads = loads
halted_may task (Bad (Relation what at)) loads = loads
halted_may task (Bad (Script line what)) loads = loads
halted_may task (Bad (Trace line what)) loads = loads
halted_may task (Bad (CellTrace line what)) loads = loads
halted_may task StoreFailed loads = loads
halted_may task NoMemory loads = tt

halted_no_sink : (why : Unread) → halt_status why ≡ statuses.SinkFailed → ⊥
halted_no_sink (Bad Missing) e = cc
halted_no_sink (Bad TooLong) e = cc
halted_no_sink (Bad (Relation what at)) e = cc
halted_no_sink (Bad (Script line what)) e = cc
halted_no_sink (Bad (Trace line what)) e = cc
halted_no_sink (Bad (CellTrace line what)) e = cc
halted_no_sink StoreFailed e = cc
halted_no_sink NoMemory e = cc

pub halted : (files : Option Files) (task : Task) (name : List ℕ) (why : Unread) (rose failed : Type 0) (w : Option (List ℕ)) (says : List ℕ → Type 0) → LoadsFiles task → HasOutputs task
    → Halts files task name why rose → says (halt_line name why) → IsEnding files task (halt_status why) rose failed w w says
halted files task name why rose failed w says loads outputs h said = record {
  output = told_all task files (λ given. AddsAfter given task (halt_status why) w w) (λ given. halted_adds given task why w outputs);
  line = halted_says why name says said;
  error_line = halted_line files task name why rose says h said;
  may_answer = halted_may task why loads;
  bad_input = halted_bad files task name why rose h;
  store_failed = halted_store files task name why rose h;
  sink_failed = λ e. absurd (halted_no_sink why e);
  complete = λ calm still. told_some task files (λ given. IsDecided given task (halt_status why)) loads (halted_status files task name why rose h calm);
}

-- ---- the whole output was written

-- a status that says so
abbrev pub SaysWhole : Status → Type 0
SaysWhole statuses.Done = ⊤
SaysWhole statuses.CheckedNo = ⊤
SaysWhole _ = ⊥

-- no file is bad, and the output that the status says was added
pub record HasWhole (given : Files) (task : Task) (status : Status) (old new : Option (List ℕ)) : Type 0 where
  pub good : NoneIsBad given task
  pub added : AddsText (IsOutputOf given task status) old new
  pub is : IsWholeStatus given task status

whole_adds : (given : Files) (task : Task) (status : Status) (old new : Option (List ℕ)) → SaysWhole status → HasWhole given task status old new → AddsAfter given task status old new
whole_adds given task statuses.Done old new says h = (h.good, h.added)
whole_adds given task statuses.CheckedNo old new says h = (h.good, h.added)
whole_adds given task _ old new says h = absurd says

whole_decides : (given : Files) (task : Task) (status : Status) (old new : Option (List ℕ)) → HasWhole given task status old new → IsDecided given task status
whole_decides given task status old new h = record { good = λ good. inl h.is; bad = λ need fault bad. absurd (none_is_first given task need fault h.good bad) }

whole_says : (status : Status) (says : List ℕ → Type 0) → SaysWhole status → LineAfter status says
whole_says statuses.Done says whole = tt
whole_says statuses.CheckedNo says whole = tt
whole_says _ says whole = absurd whole

pub whole : (files : Option Files) (task : Task) (status : Status) (rose failed : Type 0) (old new : Option (List ℕ)) (says : List ℕ → Type 0) → SaysWhole status → MayAnswer task status
    → IfTold task files (λ given. HasWhole given task status old new) → IsEnding files task status rose failed old new says
whole files task statuses.Done rose failed old new says final may told = record {
  output = told_follows task files (λ given. HasWhole given task statuses.Done old new) (λ given. AddsAfter given task statuses.Done old new)
      (λ given h. whole_adds given task statuses.Done old new final h) told;
  line = tt;
  error_line = tt;
  may_answer = may;
  bad_input = λ e. absurd cc;
  store_failed = λ e. absurd cc;
  sink_failed = λ e. absurd cc;
  complete = λ calm still. told_follows task files (λ given. HasWhole given task statuses.Done old new) (λ given. IsDecided given task statuses.Done)
      (λ given h. whole_decides given task statuses.Done old new h) told;
}
whole files task statuses.CheckedNo rose failed old new says final may told = record {
  output = told_follows task files (λ given. HasWhole given task statuses.CheckedNo old new) (λ given. AddsAfter given task statuses.CheckedNo old new)
      (λ given h. whole_adds given task statuses.CheckedNo old new final h) told;
  line = tt;
  error_line = tt;
  may_answer = may;
  bad_input = λ e. absurd cc;
  store_failed = λ e. absurd cc;
  sink_failed = λ e. absurd cc;
  complete = λ calm still. told_follows task files (λ given. HasWhole given task statuses.CheckedNo old new) (λ given. IsDecided given task statuses.CheckedNo)
      (λ given h. whole_decides given task statuses.CheckedNo old new h) told;
}
whole files task _ rose failed old new says final may told = absurd final

-- ---- a fault came before

-- no file is bad, and what was added before the fault is a front of an output
pub record HasFront (given : Files) (task : Task) (fault : SessionFault) (old new : Option (List ℕ)) : Type 0 where
  pub good : NoneIsBad given task
  pub added : AddsUntil fault (IsSomeOutputOf given task) old new

front_adds : (given : Files) (task : Task) (fault : SessionFault) (old new : Option (List ℕ)) → HasFront given task fault old new → AddsAfter given task (fault_status fault) old new
front_adds given task faults.SinkFailed old new h = (h.good, (h.added.text, h.added.count, h.added.is, h.added.proper refl, h.added.added))
front_adds given task faults.NoMemory old new h = record {
  front = λ good. (h.added.text, h.added.count, h.added.is, h.added.added);
  nothing = λ need fault bad. absurd (none_is_first given task need fault h.good bad);
}

front_decides : (given : Files) (task : Task) (status : Status) → status ≡ statuses.NoMemory → IsDecided given task status
front_decides given task status e = record { good = λ good. inr e; bad = λ need fault bad. inr e }

pub cut_off : (files : Option Files) (task : Task) (fault : SessionFault) (rose failed : Type 0) (old new : Option (List ℕ)) (says : List ℕ → Type 0)
    → IfTold task files (λ given. HasFront given task fault old new) → (fault ≡ faults.SinkFailed → failed) → LineAfter (fault_status fault) says
    → IsEnding files task (fault_status fault) rose failed old new says
cut_off files task faults.SinkFailed rose failed old new says told fails said = record {
  output = told_follows task files (λ given. HasFront given task faults.SinkFailed old new) (λ given. AddsAfter given task statuses.SinkFailed old new)
      (λ given h. front_adds given task faults.SinkFailed old new h) told;
  line = tt;
  error_line = tt;
  may_answer = tt;
  bad_input = λ e. absurd cc;
  store_failed = λ e. absurd cc;
  sink_failed = λ e. fails refl;
  complete = λ calm still. absurd (still (fails refl));
}
cut_off files task faults.NoMemory rose failed old new says told fails said = record {
  output = told_follows task files (λ given. HasFront given task faults.NoMemory old new) (λ given. AddsAfter given task statuses.NoMemory old new)
      (λ given h. front_adds given task faults.NoMemory old new h) told;
  line = said;
  error_line = tt;
  may_answer = tt;
  bad_input = λ e. absurd cc;
  store_failed = λ e. absurd cc;
  sink_failed = λ e. absurd cc;
  complete = λ calm still. told_all task files (λ given. IsDecided given task statuses.NoMemory) (λ given. front_decides given task statuses.NoMemory refl);
}
