-- What the bytes of a file must be, and why they are not.
use Rattle.std.specs.Prelude.{◌≡◌, ℕ, List, Some, ⊤}
use Rattle.pair_colours.specs.Colouring.{PairColouring}
use Rattle.relation_text.specs.Relation.{IsRelationText}
use Rattle.relation_text.specs.Faults.{relation_fault}
use Rattle.script_text.specs.Script.{IsScript}
use Rattle.script_text.specs.LineFaults.{script_fault}
use Rattle.script_text.specs.declared.acts.Line.{Line}
use Rattle.trace_text.specs.declared.stage_list.Claim.{Claim}
use Rattle.trace_text.specs.ClaimTexts.{IsTraceText}
use Rattle.trace_text.specs.TraceFault.{trace_fault}
use Rattle.equitable.specs.declared.cell_claims.CellClaim.{CellClaim}
use Rattle.equitable.specs.ClaimText.{IsCellText}
use Rattle.equitable.specs.TextFault.{cell_text_fault}
use Rattle.cohere_inputs.specs.declared.faults.FileFault.{FileFault}
use Rattle.cohere_inputs.specs.declared.faults.FileFault.TheVariants.{Missing, TooLong, Relation, Script, Trace, CellTrace}
use Rattle.cohere_inputs.specs.Kind.{Kind}
use Rattle.cohere_inputs.specs.Kind as kinds

-- the bytes are what a file of this kind must hold
abbrev pub IsText : Kind → List ℕ → Type 0
IsText (kinds.Relation line) bytes = (C : PairColouring) × IsRelationText bytes line C
IsText kinds.Script bytes = (lines : List Line) × IsScript bytes lines
IsText kinds.Trace bytes = (claim : Claim) × IsTraceText bytes claim
IsText kinds.CellTrace bytes = (claim : CellClaim) × IsCellText bytes claim

-- the bytes are not what a file of this kind must hold, for this reason
abbrev pub IsTextFault : Kind → List ℕ → FileFault → Type 0
IsTextFault (kinds.Relation line) bytes (Relation what at) = relation_fault bytes line ≡ Some (what, at)
IsTextFault kinds.Script bytes (Script line what) = script_fault bytes ≡ Some (line, what)
IsTextFault kinds.Trace bytes (Trace line what) = trace_fault bytes ≡ Some (line, what)
IsTextFault kinds.CellTrace bytes (CellTrace line what) = cell_text_fault bytes ≡ Some (line, what)
IsTextFault _ _ _ = ⊥

-- a file of this kind can be bad for such a reason
abbrev pub CanBe : Kind → FileFault → Type 0
CanBe _ Missing = ⊤
CanBe _ TooLong = ⊤
CanBe (kinds.Relation line) (Relation what at) = ⊤
CanBe kinds.Script (Script line what) = ⊤
CanBe kinds.Trace (Trace line what) = ⊤
CanBe kinds.CellTrace (CellTrace line what) = ⊤
CanBe _ _ = ⊥
