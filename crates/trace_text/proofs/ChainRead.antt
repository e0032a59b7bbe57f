-- Stages that are read one by one.
use Rattle.std.proofs.Common.{◌≡◌, ℕ, ◌+◌, List, [], ◌∷◌, ◌++◌, map, sym, ap, subst, ◌∙◌, None}
use Rattle.std.specs.Prelude.{codes, option_map}
use Rattle.std.specs.List.{AllByRecursion, flat_map}
use Rattle.std.proofs.lemmas.List.{append_assoc, append-nil}
use Rattle.std.proofs.lemmas.Grind.{flat_map-append}
use Rattle.pair_colours.specs.Colouring.{PairColouring, IsRawColouring}
use Rattle.pair_colours.proofs.ListLemmas.{Each-append}
use Rattle.trace_text.specs.declared.reader.After.{After}
use Rattle.trace_text.specs.declared.reader.After.TheVariants as ends
use Rattle.trace_text.specs.declared.trace_faults.TraceFault.{TraceFault}
use Rattle.trace_text.specs.declared.step_list.Step.{Step}
use Rattle.trace_text.specs.declared.stage_list.Stage.{Stage}
use Rattle.trace_text.specs.TraceText.{step_line, stage_lines}
use Rattle.trace_text.specs.TraceFault.{next_row, at_body, fault_from}
use Rattle.trace_text.specs.ClaimTexts.{IsTraceStage, IsTraceStep}
use Rattle.trace_text.specs.Reading.{IsFaultOf, after_line, after_place, rows_fault}
use Rattle.trace_text.proofs.RowPlaces.{row_at, stage_rows, matrix_fault, matrix_clean}
use Rattle.text_lines.specs.Rows.{matrix_lines}

-- these stages were read, the first without its line, and the line that ends the last
pub record ReadsChain (v n line0 : ℕ) (lines0 : List (List ℕ)) (line : ℕ) (lines : List (List ℕ)) (chain : List Stage) (after : After) : Type 0 where
  pub lines_are : codes "stage" ∷ lines0 ≡ flat_map stage_lines chain ++ (after_line after ∷ lines)
  pub stages : AllByRecursion (IsTraceStage v n) chain
  pub faults : fault_from line0 (next_row v n n) lines0 ≡ fault_from line (after_place v n after) lines

-- the faults of a stage are those after its rows
pub stage_faults : (v n line0 line next : ℕ) (lines0 lines rest : List (List ℕ)) (chain : List Stage) (C : PairColouring) → ReadsChain v n line0 lines0 line lines chain ends.Stage
    → C.size ≡ n → rows_fault n n line lines ≡ None → lines ≡ matrix_lines C ++ rest → next ≡ line + n
    → fault_from line0 (next_row v n n) lines0 ≡ fault_from next (at_body v n) rest
stage_faults v n line0 line next lines0 lines rest chain C r size clean rows number =
    r.faults ∙ matrix_clean n line next lines rest (next_row v n) C (stage_rows v n) clean rows size number

-- one stage more
pub chain_more : (v n line0 line next last : ℕ) (lines0 lines rest left : List (List ℕ)) (chain : List Stage) (C : PairColouring) (steps : List Step) (after : After) → ReadsChain v n line0 lines0 line lines chain ends.Stage
    → C.size ≡ n → IsRawColouring C → rows_fault n n line lines ≡ None → lines ≡ matrix_lines C ++ rest → next ≡ line + n
    → AllByRecursion (IsTraceStep v) steps → rest ≡ map step_line steps ++ (after_line after ∷ left) → ((m : ℕ) → fault_from next (at_body v m) rest ≡ fault_from last (after_place v m after) left)
    → ReadsChain v n line0 lines0 last left (chain ++ record { colours = C; steps = steps } ∷ []) after
chain_more v n line0 line next last lines0 lines rest left chain C steps after r size raw clean rows number small body faults =
    let stage : Stage = record { colours = C; steps = steps } in
    let before = flat_map stage_lines chain in
    let tail = after_line after ∷ left in
    let own : codes "stage" ∷ lines ≡ stage_lines stage ++ tail =
    ap (λ l. codes "stage" ∷ l) (rows ∙ ap (λ l. matrix_lines C ++ l) body ∙ sym (append_assoc (matrix_lines C) (map step_line steps) tail)) in
    record {
      lines_are = r.lines_are
          ∙ ap (λ l. flat_map stage_lines chain ++ l) own
          ∙ sym (append_assoc before (stage_lines stage) tail)
          ∙ ap (λ l. l ++ tail) (ap (λ l. before ++ l) (sym (append-nil (stage_lines stage))) ∙ sym (flat_map-append stage_lines chain (stage ∷ [])));
      stages = Each-append (IsTraceStage v n) chain (stage ∷ []) r.stages (record { points = size; colours = raw; steps = small }, tt);
      faults = stage_faults v n line0 line next lines0 lines rest chain C r size clean rows number ∙ faults n;
    }

-- a fault in the rows of the next stage, and one in its steps
pub chain_row_fault : (v n line0 line : ℕ) (lines0 lines : List (List ℕ)) (chain : List Stage) (fault : TraceFault) → ReadsChain v n line0 lines0 line lines chain ends.Stage
    → IsFaultOf fault (option_map row_at (rows_fault n n line lines)) → IsFaultOf fault (fault_from line0 (next_row v n n) lines0)
chain_row_fault v n line0 line lines0 lines chain fault r e = subst (IsFaultOf fault) (sym r.faults) (matrix_fault n line lines (next_row v n) (stage_rows v n) fault e)

pub chain_step_fault : (v n line0 line next : ℕ) (lines0 lines rest : List (List ℕ)) (chain : List Stage) (C : PairColouring) (fault : TraceFault) → ReadsChain v n line0 lines0 line lines chain ends.Stage
    → C.size ≡ n → rows_fault n n line lines ≡ None → lines ≡ matrix_lines C ++ rest → next ≡ line + n
    → IsFaultOf fault (fault_from next (at_body v n) rest) → IsFaultOf fault (fault_from line0 (next_row v n n) lines0)
chain_step_fault v n line0 line next lines0 lines rest chain C fault r size clean rows number e =
    subst (IsFaultOf fault) (sym (stage_faults v n line0 line next lines0 lines rest chain C r size clean rows number)) e
