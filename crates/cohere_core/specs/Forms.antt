-- What each form of words answers, and with which status.
use Rattle.std.specs.Prelude.{◌≡◌, ◌⊎◌, ℕ, List, Option, IfSome, ⊤}
use Rattle.scheme_io.specs.Files.{Files}
use Rattle.trace_text.specs.declared.stage_list.Claim.{Claim}
use Rattle.trace_text.specs.Acceptance.{Accepts}
use Rattle.equitable.specs.declared.cell_claims.CellClaim.{CellClaim}
use Rattle.equitable.specs.Acceptance.{AcceptsCells}
use Rattle.array_tables.specs.Parameters.{array_of}
use Rattle.neighbour_answers.specs.TableAnswer.{table_answer_of}
use Rattle.cohere_inputs.specs.Bad.{IsCellTraceFile, IsTraceFile}
use Rattle.cohere_inputs.specs.Task.{Task, Run, Check, Demo, Ask, CheckCells, Table}
use Rattle.cohere_core.specs.declared.status.Status.{Status}
use Rattle.cohere_core.specs.declared.status.Status.TheVariants.{Done, CheckedNo}
use Rattle.cohere_core.specs.AskForms.{AskOutput}
use Rattle.cohere_core.specs.CheckForm.{CellsOutput, CheckOutput, IsJudgedBy}
use Rattle.cohere_core.specs.DemoForm.{DemoOutput}
use Rattle.cohere_core.specs.RunForm.{RunOutput}

-- files are loaded for the task
abbrev pub LoadsFiles : Task → Type 0
LoadsFiles (Demo number) = ⊥
LoadsFiles (Table words) = ⊥
LoadsFiles _ = ⊤

-- the task judges a claim
abbrev pub Judges : Task → Type 0
Judges (Check trace) = ⊤
Judges (CheckCells trace) = ⊤
Judges _ = ⊥

-- it holds of the files that the store tells; where none is loaded for the task, of all files
abbrev pub IfTold : Task → Option Files → (Files → Type 0) → Type 0
IfTold (Demo number) files P = (given : Files) → P given
IfTold (Table words) files P = (given : Files) → P given
IfTold _ files P = IfSome files P

-- the fact, where no file is loaded for the task
abbrev pub IfNothingIsLoaded : Task → Type 0 → Type 0
IfNothingIsLoaded (Demo number) fact = fact
IfNothingIsLoaded (Table words) fact = fact
IfNothingIsLoaded _ fact = ⊤

-- t is an output of the task over these files that this status says was written whole
abbrev pub IsOutputOf : Files → Task → Status → List ℕ → Type 0
IsOutputOf files (Run run) Done t = RunOutput files run t
IsOutputOf files (Check trace) status t = CheckOutput files trace status t
IsOutputOf files (Demo number) Done t = DemoOutput number t
IsOutputOf files (Ask words) Done t = AskOutput files words t
IsOutputOf files (CheckCells trace) status t = CellsOutput files trace status t
IsOutputOf files (Table words) Done t = t ≡ table_answer_of (array_of words.b words.c)
IsOutputOf files _ _ t = ⊥

-- t is an output of the task over these files, whatever the status
abbrev pub IsSomeOutputOf : Files → Task → List ℕ → Type 0
IsSomeOutputOf files task t = IsOutputOf files task Done t ⊎ IsOutputOf files task CheckedNo t

-- the status after the whole output over these files: where a claim is judged, that of the claim, and else Done
abbrev pub IsWholeStatus : Files → Task → Status → Type 0
IsWholeStatus files (Check trace) status = IsJudgedBy Claim (IsTraceFile files trace) Accepts status
IsWholeStatus files (CheckCells trace) status = IsJudgedBy CellClaim (IsCellTraceFile files trace) AcceptsCells status
IsWholeStatus files _ status = status ≡ Done
