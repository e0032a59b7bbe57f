-- The forms that judge a claim, `check TRACE` and `check-cells TRACE`: what they answer.
use Rattle.std.specs.Prelude.{◌≡◌, ℕ, List}
use Rattle.scheme_io.specs.Files.{Files}
use Rattle.trace_text.specs.declared.stage_list.Claim.{Claim}
use Rattle.trace_text.specs.Acceptance.{Accepts}
use Rattle.trace_check.specs.declared.verdicts.Verdict.{Verdict}
use Rattle.trace_check.specs.Verdict.{IsVerdict}
use Rattle.report_text.specs.Verdicts.{verdict_text_of}
use Rattle.equitable.specs.declared.cell_claims.CellClaim.{CellClaim}
use Rattle.equitable.specs.Acceptance.{AcceptsCells}
use Rattle.neighbour_answers.specs.CellsAnswer.{TellsCellVerdict}
use Rattle.cohere_inputs.specs.Bad.{IsCellTraceFile, IsTraceFile}
use Rattle.cohere_core.specs.declared.status.Status.{Status}
use Rattle.cohere_core.specs.declared.status.Status.TheVariants.{Done, CheckedNo}

-- t is the line that the claim of a trace has: that of its verdict
abbrev pub TellsVerdict : Claim → List ℕ → Type 0
TellsVerdict claim t = (verdict : Verdict) × IsVerdict claim verdict × (t ≡ verdict_text_of verdict)

-- t is the line of the claim that the file holds: an accepted one with Done, and one that is not accepted with CheckedNo
abbrev pub JudgesClaim : (Claim : Type 0) → (Claim → Type 0) → (Claim → Type 0) → (Claim → List ℕ → Type 0) → Status → List ℕ → Type 0
JudgesClaim Claim IsFile IsAccepted Tells Done t = (claim : Claim) × IsFile claim × IsAccepted claim × Tells claim t
JudgesClaim Claim IsFile IsAccepted Tells CheckedNo t = (claim : Claim) × IsFile claim × (¬ IsAccepted claim) × Tells claim t
JudgesClaim Claim IsFile IsAccepted Tells _ t = ⊥

-- the status is that of the claim that the file holds
pub record IsJudgedBy (Claim : Type 0) (IsFile IsAccepted : Claim → Type 0) (status : Status) : Type 0 where
  pub accepted : (claim : Claim) → IsFile claim → IsAccepted claim → status ≡ Done
  pub refused : (claim : Claim) → IsFile claim → ¬ IsAccepted claim → status ≡ CheckedNo

-- t is what `check` answers with this status for the trace in the file of this name, and `check-cells` for the trace of cells
abbrev pub CheckOutput : Files → List ℕ → Status → List ℕ → Type 0
CheckOutput files trace status t = JudgesClaim Claim (IsTraceFile files trace) Accepts TellsVerdict status t

abbrev pub CellsOutput : Files → List ℕ → Status → List ℕ → Type 0
CellsOutput files trace status t = JudgesClaim CellClaim (IsCellTraceFile files trace) AcceptsCells TellsCellVerdict status t
