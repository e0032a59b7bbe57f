-- What is known of a trace of cells that was loaded and read.
use Rattle.std.proofs.Common.{◌≡◌, ◌^◌, ◌<◌, ◌≤◌, ℕ, List, length, arith, sym, ap, subst, ◌∙◌}
use Rattle.std.specs.Prelude.{Option, Some, None, IfSome}
use Rattle.scheme_io.specs.Files.{Files, Holds}
use Rattle.equitable.specs.declared.cell_claims.CellClaim.{CellClaim}
use Rattle.equitable.specs.declared.limits.TheConstants.{MOST_CELL_TEXT}
use Rattle.equitable.specs.declared.text_faults.CellTextFault.{CellTextFault}
use Rattle.equitable.specs.declared.text_faults.CellTextFault.TheVariants.{Text, NoMemory}
use Rattle.equitable.specs.BadLines.{line_count}
use Rattle.equitable.specs.ClaimText.{IsCellText}
use Rattle.equitable.specs.Reading.{IsFaultOf}
use Rattle.equitable.specs.TextFault.{cell_text_fault}
use Rattle.equitable.proofs.LawProofs.{reading_has_few_lines}
use Rattle.cohere_inputs.specs.declared.faults.FileFault.TheVariants.{CellTrace}
use Rattle.cohere_inputs.specs.Kind.{limit_of}
use Rattle.cohere_inputs.specs.Needs.{Need, cell_trace_need}
use Rattle.cohere_inputs.specs.Bad.{HoldsWithin, IsCellTraceFile, IsFault}
use Rattle.cohere_inputs.specs.Unread.{IsCause, unread_cells}

-- what follows from the bytes of a file that was loaded holds where the files are told
held : (files : Option Files) (need : Need) (bytes : List ℕ) (P : Files → Type 0) → Holds files need.name bytes → length bytes ≤ limit_of need.kind
    → ((given : Files) → HoldsWithin given need bytes → P given) → IfSome files P
held None need bytes P found short make = tt
held (Some files) need bytes P found short make = make files (record { holds = found; short = short })

-- the file that was loaded is a trace of the claim that was read of it
pub cell_trace_file : (files : Option Files) (name bytes view : List ℕ) (claim : CellClaim) → view ≡ bytes → Holds files name bytes → length bytes ≤ MOST_CELL_TEXT
    → IsCellText view claim → IfSome files (λ files. IsCellTraceFile files name claim)
cell_trace_file files name bytes view claim same found short read =
    held files (cell_trace_need name) bytes (λ given. IsCellTraceFile given name claim) found short
    (λ given file. record { bytes = bytes; file = file; reads = subst (λ (b : List ℕ). IsCellText b claim) same read })

-- which has few lines
pub cell_lines_fit : (bytes view : List ℕ) (claim : CellClaim) → view ≡ bytes → length bytes ≤ MOST_CELL_TEXT → IsCellText view claim → line_count claim < 2 ^ 32
cell_lines_fit bytes view claim same short read = omega (arith, short, ap length same, reading_has_few_lines view claim read)

-- and a fault of reading is a cause
pub cell_cause : (files : Option Files) (name bytes view : List ℕ) (fault : CellTextFault) (rose : Type 0) → view ≡ bytes → Holds files name bytes → length bytes ≤ MOST_CELL_TEXT
    → IsFaultOf fault (cell_text_fault view) → IsCause files (cell_trace_need name) (unread_cells fault) rose
cell_cause files name bytes view (Text line what) rose same found short fault = (
  held files (cell_trace_need name) bytes (λ given. IsFault given (cell_trace_need name) (CellTrace line what)) found short
      (λ given file. (bytes, file, ap cell_text_fault (sym same) ∙ fault)),
  λ e. absurd cc,
)
cell_cause files name bytes view NoMemory rose same found short fault = tt
