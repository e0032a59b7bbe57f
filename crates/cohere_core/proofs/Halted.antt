-- A task for which a file was not read.
use Rattle.std.proofs.Common.{◌≡◌, ◌⊎◌, ℕ, List, Option, Some, None, refl, ap, subst, inl, inr}
use Rattle.std.specs.Prelude.{◌≢◌, IsSome, IfSome}
use Rattle.scheme_io.specs.Files.{Files, IsMissing}
use Rattle.cohere_inputs.specs.declared.faults.FileFault.{FileFault}
use Rattle.cohere_inputs.specs.declared.faults.FileFault.TheVariants.{Missing, TooLong, Relation, Script, Trace, CellTrace}
use Rattle.cohere_inputs.specs.declared.faults.Unread.{Unread}
use Rattle.cohere_inputs.specs.declared.faults.Unread.TheVariants.{Bad, StoreFailed, NoMemory}
use Rattle.cohere_inputs.specs.Task.{Task}
use Rattle.cohere_inputs.specs.Needs.{Need}
use Rattle.cohere_inputs.specs.Bad.{IsFault}
use Rattle.cohere_inputs.specs.Lines.{halt_line, fault_line, unread_line}
use Rattle.cohere_inputs.specs.Unread.{Halts}
use Rattle.cohere_inputs.proofs.LawProofs.{none_is_first, first_bad_is_unique}
use Rattle.cohere_core.specs.declared.status.Status.TheVariants as statuses
use Rattle.cohere_core.specs.Ending.{halt_status}
use Rattle.cohere_core.specs.Run.{ErrorLineAfter, FirstBadIsMissing, FirstBadIsText, IsDecided, SaysBad, SaysUnread, status_of}

-- a file is not there only where the store tells its files
missing_where_told : (files : Option Files) (need : Need) → IfSome files (λ files. IsFault files need Missing) → IsSome files → IsMissing files need.name
missing_where_told None need bad told = cc
missing_where_told (Some files) need bad told = bad

-- what is said of a file that is bad, and of one that could not be read
says_bad : (files : Option Files) (task : Task) (name : List ℕ) (fault : FileFault) (rose : Type 0) (says : List ℕ → Type 0) → fault ≢ Missing → Halts files task name (Bad fault) rose
    → says (fault_line name fault) → SaysBad files task says
says_bad files task name fault rose says text h said =
    record { need = h.need; fault = fault; text = text; form = h.form; line = subst (λ n. says (fault_line n fault)) h.is_named said; reached = h.reached; bad = h.cause.0 }

says_unread : (files : Option Files) (task : Task) (name : List ℕ) (why : Unread) (rose : Type 0) (says : List ℕ → Type 0) (h : Halts files task name why rose)
    → rose ⊎ IsMissing files h.need.name → says (unread_line name) → SaysUnread files task rose says
says_unread files task name why rose says h unread said =
    record { need = h.need; line = subst (λ n. says (unread_line n)) h.is_named said; reached = h.reached; unread = unread }

-- the line after the status
pub halted_line : (files : Option Files) (task : Task) (name : List ℕ) (why : Unread) (rose : Type 0) (says : List ℕ → Type 0) → Halts files task name why rose
    → says (halt_line name why) → ErrorLineAfter task (halt_status why) files rose says
halted_line files task name (Bad Missing) rose says h said = says_unread files task name (Bad Missing) rose says h (inr (missing_where_told files h.need h.cause.0 (h.cause.1 refl))) said
halted_line files task name (Bad TooLong) rose says h said = says_bad files task name TooLong rose says (λ e. cc) h said
halted_line files task name (Bad (Relation what at)) rose says h said = says_bad files task name (Relation what at) rose says (λ e. cc) h said
halted_line files task name (Bad (Script line what)) rose says h said = says_bad files task name (Script line what) rose says (λ e. cc) h said
halted_line files task name (Bad (Trace line what)) rose says h said = says_bad files task name (Trace line what) rose says (λ e. cc) h said
halted_line files task name (Bad (CellTrace line what)) rose says h said = says_bad files task name (CellTrace line what) rose says (λ e. cc) h said
halted_line files task name StoreFailed rose says h said = says_unread files task name StoreFailed rose says h (inl h.cause) said
halted_line files task name NoMemory rose says h said = tt

-- a bad file that is there is the first bad one
pub halted_bad : (files : Option Files) (task : Task) (name : List ℕ) (why : Unread) (rose : Type 0) → Halts files task name why rose → halt_status why ≡ statuses.BadInput
    → FirstBadIsText files task
halted_bad None task name why rose h e = tt
halted_bad (Some files) task name (Bad Missing) rose h e = absurd cc
halted_bad (Some files) task name (Bad TooLong) rose h e = (h.need, TooLong, λ m. cc, (h.reached, h.cause.0))
halted_bad (Some files) task name (Bad (Relation what at)) rose h e = (h.need, Relation what at, λ m. cc, (h.reached, h.cause.0))
halted_bad (Some files) task name (Bad (Script line what)) rose h e = (h.need, Script line what, λ m. cc, (h.reached, h.cause.0))
halted_bad (Some files) task name (Bad (Trace line what)) rose h e = (h.need, Trace line what, λ m. cc, (h.reached, h.cause.0))
halted_bad (Some files) task name (Bad (CellTrace line what)) rose h e = (h.need, CellTrace line what, λ m. cc, (h.reached, h.cause.0))
halted_bad (Some files) task name StoreFailed rose h e = absurd cc
halted_bad (Some files) task name NoMemory rose h e = absurd cc

-- where the store failed, its count rose, or the first bad file is not there
first_is_missing : (files : Option Files) (task : Task) (name : List ℕ) (rose : Type 0) (h : Halts files task name (Bad Missing) rose) → IsSome files → FirstBadIsMissing files task
first_is_missing None task name rose h told = cc
first_is_missing (Some files) task name rose h told = (h.need, (h.reached, h.cause.0))

pub halted_store : (files : Option Files) (task : Task) (name : List ℕ) (why : Unread) (rose : Type 0) → Halts files task name why rose → halt_status why ≡ statuses.StoreFailed
    → rose ⊎ FirstBadIsMissing files task
halted_store files task name (Bad Missing) rose h e = inr (first_is_missing files task name rose h (h.cause.1 refl))
halted_store files task name (Bad TooLong) rose h e = absurd cc
halted_store files task name (Bad (Relation what at)) rose h e = absurd cc
halted_store files task name (Bad (Script line what)) rose h e = absurd cc
halted_store files task name (Bad (Trace line what)) rose h e = absurd cc
halted_store files task name (Bad (CellTrace line what)) rose h e = absurd cc
halted_store files task name StoreFailed rose h e = inl h.cause
halted_store files task name NoMemory rose h e = absurd cc

-- the files decide the status, where no count of faults rose
halted_files : (files : Files) (task : Task) (name : List ℕ) (why : Unread) (rose : Type 0) → Halts (Some files) task name why rose → (rose → ⊥)
    → IsDecided files task (halt_status why)
halted_files files task name (Bad fault) rose h calm = record {
  good = λ good. absurd (none_is_first files task h.need fault good (h.reached, h.cause.0));
  bad = λ other another bad. inl (ap status_of (first_bad_is_unique files task h.need other fault another (h.reached, h.cause.0) bad).1);
}
halted_files files task name StoreFailed rose h calm = absurd (calm h.cause)
halted_files files task name NoMemory rose h calm = record { good = λ good. inr refl; bad = λ other another bad. inr refl }

pub halted_status : (files : Option Files) (task : Task) (name : List ℕ) (why : Unread) (rose : Type 0) → Halts files task name why rose → (rose → ⊥)
    → IfSome files (λ given. IsDecided given task (halt_status why))
halted_status None task name why rose h calm = tt
halted_status (Some files) task name why rose h calm = halted_files files task name why rose h calm
