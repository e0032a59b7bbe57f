-- What is known of a trace that was loaded and read.
use Rattle.std.proofs.Common.{◌≡◌, ◌^◌, ◌<◌, ◌≤◌, ℕ, List, length, sym, ap, subst, ◌∙◌}
use Rattle.std.specs.Prelude.{Option, Some, None, IfSome}
use Rattle.scheme_io.specs.Files.{Files, Holds}
use Rattle.trace_text.specs.declared.limits.TheConstants.{MOST_TRACE}
use Rattle.trace_text.specs.declared.stage_list.Claim.{Claim}
use Rattle.trace_text.specs.declared.trace_faults.TraceFault.{TraceFault}
use Rattle.trace_text.specs.declared.trace_faults.TraceFault.TheVariants.{Text, NoMemory}
use Rattle.trace_text.specs.declared.trace_faults.TraceWord.{TraceWord}
use Rattle.trace_text.specs.BadLines.{line_count}
use Rattle.trace_text.specs.ClaimTexts.{IsTraceText}
use Rattle.trace_text.specs.Reading.{IsFaultOf}
use Rattle.trace_text.specs.TraceFault.{trace_fault}
use Rattle.cohere_inputs.specs.declared.faults.FileFault.TheVariants.{Trace}
use Rattle.cohere_inputs.specs.Needs.{trace_need}
use Rattle.cohere_inputs.specs.Bad.{IsTraceFile, IsFault}
use Rattle.cohere_inputs.specs.Unread.{IsCause, unread_trace}
use Rattle.cohere_inputs.proofs.ClaimLength.{few_lines}

-- the file that was loaded is a trace of the claim that was read of it
pub trace_file : (files : Option Files) (name bytes view : List ℕ) (claim : Claim) → view ≡ bytes → Holds files name bytes → length bytes ≤ MOST_TRACE
    → IsTraceText view claim → IfSome files (λ files. IsTraceFile files name claim)
trace_file None name bytes view claim same found short read = tt
trace_file (Some files) name bytes view claim same found short read =
    record { bytes = bytes; file = record { holds = found; short = short }; reads = subst (λ (b : List ℕ). IsTraceText b claim) same read }

-- which has few lines
pub trace_lines_fit : (bytes view : List ℕ) (claim : Claim) → view ≡ bytes → length bytes ≤ MOST_TRACE → IsTraceText view claim → line_count claim < 2 ^ 32
trace_lines_fit bytes view claim same short read = few_lines bytes claim short (subst (λ (b : List ℕ). IsTraceText b claim) same read)

-- and its fault is that of the file
trace_fault_of : (files : Option Files) (name bytes view : List ℕ) (line : ℕ) (what : TraceWord) → view ≡ bytes → Holds files name bytes → length bytes ≤ MOST_TRACE
    → trace_fault view ≡ Some (line, what) → IfSome files (λ files. IsFault files (trace_need name) (Trace line what))
trace_fault_of None name bytes view line what same found short fault = tt
trace_fault_of (Some files) name bytes view line what same found short fault =
    (bytes, record { holds = found; short = short }, ap trace_fault (sym same) ∙ fault)

-- so a fault of reading is a cause
pub trace_cause : (files : Option Files) (name bytes view : List ℕ) (fault : TraceFault) (rose : Type 0) → view ≡ bytes → Holds files name bytes → length bytes ≤ MOST_TRACE
    → IsFaultOf fault (trace_fault view) → IsCause files (trace_need name) (unread_trace fault) rose
trace_cause files name bytes view (Text line what) rose same found short fault = (trace_fault_of files name bytes view line what same found short fault, λ e. absurd cc)
trace_cause files name bytes view NoMemory rose same found short fault = tt
