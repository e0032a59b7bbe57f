-- What holds of the files that a store tells, by the form of the task.
use Rattle.std.proofs.Common.{Option, Some, None}
use Rattle.std.specs.Prelude.{IfSome}
use Rattle.scheme_io.specs.Files.{Files}
use Rattle.cohere_inputs.specs.Task.{Task, Run, Check, Demo, Ask, CheckCells, Table}
use Rattle.cohere_core.specs.Forms.{IfTold, LoadsFiles}

some_holds : (files : Option Files) (P : Files → Type 0) → ((given : Files) → P given) → IfSome files P
some_holds None P all = tt
some_holds (Some files) P all = all files

some_follows : (files : Option Files) (P Q : Files → Type 0) → ((given : Files) → P given → Q given) → IfSome files P → IfSome files Q
some_follows None P Q more some = tt
some_follows (Some files) P Q more some = more files some

-- what holds of all files
pub told_all : (task : Task) (files : Option Files) (P : Files → Type 0) → ((given : Files) → P given) → IfTold task files P
told_all (Run run) files P all = some_holds files P all
told_all (Check trace) files P all = some_holds files P all
told_all (Demo number) files P all = all
told_all (Ask words) files P all = some_holds files P all
told_all (CheckCells trace) files P all = some_holds files P all
told_all (Table words) files P all = all

-- what follows of all files
pub told_follows : (task : Task) (files : Option Files) (P Q : Files → Type 0) → ((given : Files) → P given → Q given) → IfTold task files P → IfTold task files Q
told_follows (Run run) files P Q more told = some_follows files P Q more told
told_follows (Check trace) files P Q more told = some_follows files P Q more told
told_follows (Demo number) files P Q more told = λ given. more given (told given)
told_follows (Ask words) files P Q more told = some_follows files P Q more told
told_follows (CheckCells trace) files P Q more told = some_follows files P Q more told
told_follows (Table words) files P Q more told = λ given. more given (told given)

-- what holds of the files that are told, where some are loaded
pub told_some : (task : Task) (files : Option Files) (P : Files → Type 0) → LoadsFiles task → IfSome files P → IfTold task files P
told_some (Run run) files P loads some = some
told_some (Check trace) files P loads some = some
told_some (Demo number) files P loads some = absurd loads
told_some (Ask words) files P loads some = some
told_some (CheckCells trace) files P loads some = some
told_some (Table words) files P loads some = absurd loads
