-- The output of a check of a trace of cells.
use Rattle.std.proofs.Common.{◌≡◌, ℕ, List, length, Option, Some, None, ⊎_elim, refl, sym, subst, ◌∙◌, inl, inr}
use Rattle.std.specs.Prelude.{◌⊎◌, IfSome}
use Rattle.std.specs.List.{AllByRecursion}
use Rattle.std.specs.Io.KnownBytes.{Appends}
use Rattle.std.proofs.lemmas.Option.{same_Some}
use Rattle.scheme_io.specs.Files.{Files}
use Rattle.equitable.specs.declared.cell_claims.CellClaim.{CellClaim}
use Rattle.equitable.specs.declared.check_words.CellCheck.{CellCheck}
use Rattle.equitable.specs.declared.verdicts.CellVerdict.{CellVerdict}
use Rattle.equitable.specs.declared.verdicts.CellVerdict.TheVariants.{Accepted, Refused}
use Rattle.equitable.specs.Acceptance.{AcceptsCells}
use Rattle.equitable.specs.BadLines.{IsFirstBadLine}
use Rattle.equitable.specs.ClaimText.{IsCellText}
use Rattle.equitable.specs.Equitable.{cell_count}
use Rattle.equitable.specs.Verdict.{IsVerdict}
use Rattle.equitable.proofs.LawProofs.{accepted_has_none, reading_is_unique, verdict_exists}
use Rattle.neighbour_answers.specs.CellsAnswer.{TellsCellVerdict, cell_verdict_text}
use Rattle.cohere_inputs.specs.Task.{CheckCells}
use Rattle.cohere_inputs.specs.Needs.{Need, named_files}
use Rattle.cohere_inputs.specs.Bad.{IsCellTraceFile, IsGood, NoneIsBad}
use Rattle.cohere_core.specs.declared.answering.SessionFault.{SessionFault}
use Rattle.cohere_core.specs.declared.status.Status.TheVariants.{Done, CheckedNo}
use Rattle.cohere_core.specs.Added.{AddsUntil}
use Rattle.cohere_core.specs.Forms.{IsSomeOutputOf}
use Rattle.cohere_core.proofs.Endings.{HasFront, HasOutputs, HasWhole}
use Rattle.cohere_core.proofs.Fronts.{until_other}
use Rattle.cohere_core.proofs.Judgements.{accepted_is_done, line_is_output, refused_is_no}

-- ---- the file

-- a trace of cells is good
good_cells : (files : Files) (trace : List ℕ) (claim : CellClaim) → IsCellTraceFile files trace claim → NoneIsBad files (CheckCells trace)
good_cells files trace claim file =
    record { needs = named_files (CheckCells trace); loaded = refl; good = (record { bytes = file.bytes; file = file.file; text = (claim, file.reads) }, tt) }

-- where no file is bad, there is a claim
has_claim : (files : Files) (trace : List ℕ) → NoneIsBad files (CheckCells trace) → (claim : CellClaim) × IsCellTraceFile files trace claim
has_claim files trace none =
    let good = subst (λ (needs : List Need). AllByRecursion (IsGood files) needs) none.loaded none.good in
    (good.0.text.0, record { bytes = good.0.bytes; file = good.0.file; reads = good.0.text.1 })

-- and only one
same_claim : (files : Files) (trace : List ℕ) (claim other : CellClaim) → IsCellTraceFile files trace claim → IsCellTraceFile files trace other → claim ≡ other
same_claim files trace claim other a b =
    let same : b.bytes ≡ a.bytes = same_Some b.bytes a.bytes (sym b.file.holds ∙ a.file.holds) in
    reading_is_unique a.bytes claim other a.reads (subst (λ (t : List ℕ). IsCellText t other) same b.reads)

-- ---- the line of a claim

-- a claim is accepted, or has a first bad line
verdict_of : (claim : CellClaim) → (verdict : CellVerdict) × IsVerdict claim verdict
verdict_of claim = ⊎_elim
    (λ accepts. (Accepted claim.arcs.size (cell_count claim.cells) (length claim.steps), record { accepts = accepts; size = refl; different = refl; counted = refl }))
    (λ (bad : (line : ℕ) × (word : CellCheck) × IsFirstBadLine claim line word). (Refused bad.0 bad.1, bad.2))
    (verdict_exists claim)

accepts_or_not : (claim : CellClaim) (verdict : CellVerdict) → IsVerdict claim verdict → AcceptsCells claim ⊎ (AcceptsCells claim → ⊥)
accepts_or_not claim (Accepted points cells steps) is = inl is.accepts
accepts_or_not claim (Refused line word) is = inr (λ yes. accepted_has_none claim line word yes is)

-- so it has a line
pub has_cell_line : (claim : CellClaim) → (t : List ℕ) × TellsCellVerdict claim t
has_cell_line claim = let v = verdict_of claim in (cell_verdict_text v.0, (v.0, v.1, refl))

-- which is an output of its file
line_is_some_output : (files : Files) (trace : List ℕ) (claim : CellClaim) (t : List ℕ) → IsCellTraceFile files trace claim → TellsCellVerdict claim t
    → IsSomeOutputOf files (CheckCells trace) t
line_is_some_output files trace claim t file tells =
    line_is_output CellClaim (IsCellTraceFile files trace) AcceptsCells TellsCellVerdict claim t file (accepts_or_not claim tells.0 tells.1) tells

-- ---- the output

pub cells_outputs : (trace : List ℕ) → HasOutputs (CheckCells trace)
cells_outputs trace given none =
    let c = has_claim given trace none in
    let t = has_cell_line c.0 in
    (t.0, line_is_some_output given trace c.0 t.0 c.1 t.1)

pub cells_accepted : (files : Option Files) (trace : List ℕ) (claim : CellClaim) (verdict : CellVerdict) (points cells steps : ℕ) (old new : Option (List ℕ))
    → IfSome files (λ files. IsCellTraceFile files trace claim) → verdict ≡ Accepted points cells steps → IsVerdict claim verdict → Appends old new (cell_verdict_text verdict)
    → IfSome files (λ given. HasWhole given (CheckCells trace) Done old new)
cells_accepted None trace claim verdict points cells steps old new file e is added = tt
cells_accepted (Some files) trace claim verdict points cells steps old new file e is added =
    let yes = subst (λ (v : CellVerdict). IsVerdict claim v) e is in
    record {
      good = good_cells files trace claim file;
      added = (cell_verdict_text verdict, (claim, file, yes.accepts, (verdict, is, refl)), added);
      is = accepted_is_done CellClaim (IsCellTraceFile files trace) AcceptsCells claim (λ other read. same_claim files trace claim other file read) yes.accepts;
    }

pub cells_refused : (files : Option Files) (trace : List ℕ) (claim : CellClaim) (verdict : CellVerdict) (line : ℕ) (word : CellCheck) (old new : Option (List ℕ))
    → IfSome files (λ files. IsCellTraceFile files trace claim) → verdict ≡ Refused line word → IsVerdict claim verdict → Appends old new (cell_verdict_text verdict)
    → IfSome files (λ given. HasWhole given (CheckCells trace) CheckedNo old new)
cells_refused None trace claim verdict line word old new file e is added = tt
cells_refused (Some files) trace claim verdict line word old new file e is added =
    let first = subst (λ (v : CellVerdict). IsVerdict claim v) e is in
    let no : AcceptsCells claim → ⊥ = λ yes. accepted_has_none claim line word yes first in
    record {
      good = good_cells files trace claim file;
      added = (cell_verdict_text verdict, (claim, file, no, (verdict, is, refl)), added);
      is = refused_is_no CellClaim (IsCellTraceFile files trace) AcceptsCells claim (λ other read. same_claim files trace claim other file read) no;
    }

pub cells_front : (files : Option Files) (trace : List ℕ) (claim : CellClaim) (fault : SessionFault) (old new : Option (List ℕ))
    → IfSome files (λ files. IsCellTraceFile files trace claim) → AddsUntil fault (TellsCellVerdict claim) old new → IfSome files (λ given. HasFront given (CheckCells trace) fault old new)
cells_front None trace claim fault old new file front = tt
cells_front (Some files) trace claim fault old new file front = record {
  good = good_cells files trace claim file;
  added = until_other fault (TellsCellVerdict claim) (IsSomeOutputOf files (CheckCells trace)) old new (λ t tells. line_is_some_output files trace claim t file tells) front;
}
