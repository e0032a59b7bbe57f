-- The output of a check of a trace.
use Rattle.std.proofs.Common.{◌≡◌, ◌≤◌, ℕ, List, length, Option, Some, None, ⊎_elim, refl, sym, subst, ◌∙◌, inl, inr}
use Rattle.std.specs.Prelude.{◌⊎◌, IfSome}
use Rattle.std.specs.List.{AllByRecursion}
use Rattle.std.specs.Io.KnownBytes.{Appends}
use Rattle.std.proofs.lemmas.Option.{same_Some}
use Rattle.scheme_io.specs.Files.{Files}
use Rattle.pair_colours.specs.Naming.{rank_of}
use Rattle.trace_text.specs.declared.check_words.CheckWord.{CheckWord}
use Rattle.trace_text.specs.declared.stage_list.Claim.{Claim}
use Rattle.trace_text.specs.Acceptance.{Accepts, step_count}
use Rattle.trace_text.specs.BadLines.{IsFirstBadLine}
use Rattle.trace_text.specs.ClaimTexts.{IsTraceText}
use Rattle.trace_text.proofs.LawProofs.{verdict_exists, accepted_has_none, reading_is_unique}
use Rattle.trace_check.specs.declared.verdicts.Verdict.{Verdict}
use Rattle.trace_check.specs.declared.verdicts.Verdict.TheVariants.{Accepted, Refused}
use Rattle.trace_check.specs.Verdict.{IsVerdict}
use Rattle.report_text.specs.Verdicts.{verdict_text_of}
use Rattle.cohere_inputs.specs.Task.{Check}
use Rattle.cohere_inputs.specs.Needs.{Need, named_files}
use Rattle.cohere_inputs.specs.Bad.{IsGood, IsTraceFile, NoneIsBad}
use Rattle.cohere_core.specs.declared.answering.SessionFault.{SessionFault}
use Rattle.cohere_core.specs.declared.status.Status.TheVariants.{Done, CheckedNo}
use Rattle.cohere_core.specs.Added.{AddsUntil}
use Rattle.cohere_core.specs.CheckForm.{TellsVerdict}
use Rattle.cohere_core.specs.Forms.{IsSomeOutputOf}
use Rattle.cohere_core.proofs.Endings.{HasFront, HasOutputs, HasWhole}
use Rattle.cohere_core.proofs.Fronts.{until_other}
use Rattle.cohere_core.proofs.Judgements.{accepted_is_done, line_is_output, refused_is_no}

-- ---- the file

-- a trace is good
pub good_trace : (files : Files) (trace : List ℕ) (claim : Claim) → IsTraceFile files trace claim → NoneIsBad files (Check trace)
good_trace files trace claim file =
    record { needs = named_files (Check trace); loaded = refl; good = (record { bytes = file.bytes; file = file.file; text = (claim, file.reads) }, tt) }

-- where no file is bad, there is a claim
has_claim : (files : Files) (trace : List ℕ) → NoneIsBad files (Check trace) → (claim : Claim) × IsTraceFile files trace claim
has_claim files trace none =
    let good = subst (λ (needs : List Need). AllByRecursion (IsGood files) needs) none.loaded none.good in
    (good.0.text.0, record { bytes = good.0.bytes; file = good.0.file; reads = good.0.text.1 })

-- and only one
same_claim : (files : Files) (trace : List ℕ) (claim other : Claim) → IsTraceFile files trace claim → IsTraceFile files trace other → claim ≡ other
same_claim files trace claim other a b =
    let same : b.bytes ≡ a.bytes = same_Some b.bytes a.bytes (sym b.file.holds ∙ a.file.holds) in
    reading_is_unique a.bytes claim other a.reads (subst (λ (t : List ℕ). IsTraceText t other) same b.reads)

-- ---- the line of a claim

-- a claim with a stage is accepted, or has a first bad line
pub verdict_of : (claim : Claim) → 1 ≤ length claim.chain → (verdict : Verdict) × IsVerdict claim verdict
verdict_of claim some = ⊎_elim
    (λ accepts. (Accepted claim.closure.size (rank_of claim.closure) (step_count claim.chain), record { accepts = accepts; size = refl; classes = refl; counted = refl }))
    (λ (bad : (line : ℕ) × (word : CheckWord) × IsFirstBadLine claim line word). (Refused bad.0 bad.1, bad.2))
    (verdict_exists claim some)

accepts_or_not : (claim : Claim) (verdict : Verdict) → IsVerdict claim verdict → Accepts claim ⊎ (Accepts claim → ⊥)
accepts_or_not claim (Accepted points rank steps) is = inl is.accepts
accepts_or_not claim (Refused line word) is = inr (λ yes. accepted_has_none claim line word yes is)

-- so it has a line
pub has_line : (claim : Claim) → 1 ≤ length claim.chain → (t : List ℕ) × TellsVerdict claim t
has_line claim some = let v = verdict_of claim some in (verdict_text_of v.0, (v.0, v.1, refl))

-- which is an output of its file
line_is_some_output : (files : Files) (trace : List ℕ) (claim : Claim) (t : List ℕ) → IsTraceFile files trace claim → TellsVerdict claim t → IsSomeOutputOf files (Check trace) t
line_is_some_output files trace claim t file tells =
    line_is_output Claim (IsTraceFile files trace) Accepts TellsVerdict claim t file (accepts_or_not claim tells.0 tells.1) tells

-- ---- the output

pub check_outputs : (trace : List ℕ) → HasOutputs (Check trace)
check_outputs trace given none =
    let c = has_claim given trace none in
    let t = has_line c.0 c.1.reads.lines.fits.has_stage in
    (t.0, line_is_some_output given trace c.0 t.0 c.1 t.1)

pub check_accepted : (files : Option Files) (trace : List ℕ) (claim : Claim) (verdict : Verdict) (points rank steps : ℕ) (old new : Option (List ℕ))
    → IfSome files (λ files. IsTraceFile files trace claim) → verdict ≡ Accepted points rank steps → IsVerdict claim verdict → Appends old new (verdict_text_of verdict)
    → IfSome files (λ given. HasWhole given (Check trace) Done old new)
check_accepted None trace claim verdict points rank steps old new file e is added = tt
check_accepted (Some files) trace claim verdict points rank steps old new file e is added =
    let yes = subst (λ (v : Verdict). IsVerdict claim v) e is in
    record {
      good = good_trace files trace claim file;
      added = (verdict_text_of verdict, (claim, file, yes.accepts, (verdict, is, refl)), added);
      is = accepted_is_done Claim (IsTraceFile files trace) Accepts claim (λ other read. same_claim files trace claim other file read) yes.accepts;
    }

pub check_refused : (files : Option Files) (trace : List ℕ) (claim : Claim) (verdict : Verdict) (line : ℕ) (word : CheckWord) (old new : Option (List ℕ))
    → IfSome files (λ files. IsTraceFile files trace claim) → verdict ≡ Refused line word → IsVerdict claim verdict → Appends old new (verdict_text_of verdict)
    → IfSome files (λ given. HasWhole given (Check trace) CheckedNo old new)
check_refused None trace claim verdict line word old new file e is added = tt
check_refused (Some files) trace claim verdict line word old new file e is added =
    let first = subst (λ (v : Verdict). IsVerdict claim v) e is in
    let no : Accepts claim → ⊥ = λ yes. accepted_has_none claim line word yes first in
    record {
      good = good_trace files trace claim file;
      added = (verdict_text_of verdict, (claim, file, no, (verdict, is, refl)), added);
      is = refused_is_no Claim (IsTraceFile files trace) Accepts claim (λ other read. same_claim files trace claim other file read) no;
    }

pub check_front : (files : Option Files) (trace : List ℕ) (claim : Claim) (fault : SessionFault) (old new : Option (List ℕ)) → IfSome files (λ files. IsTraceFile files trace claim)
    → AddsUntil fault (TellsVerdict claim) old new → IfSome files (λ given. HasFront given (Check trace) fault old new)
check_front None trace claim fault old new file front = tt
check_front (Some files) trace claim fault old new file front = record {
  good = good_trace files trace claim file;
  added = until_other fault (TellsVerdict claim) (IsSomeOutputOf files (Check trace)) old new (λ t tells. line_is_some_output files trace claim t file tells) front;
}
