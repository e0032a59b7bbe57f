-- A whole trace that is read part by part: where its fault is, if it has one.
use Rattle.std.proofs.Common.{◌≡◌, ℕ, ◌+◌, ◌<◌, ◌≤◌, false, cond, List, [], ◌∷◌, ◌++◌, length, Option, Some, None, Result, Ok, Err, refl, sym, ap, subst, ◌∙◌, arith}
use Rattle.std.specs.Prelude.{codes, decimal, bytes_eq, is_some, IfErr}
use Rattle.pair_colours.specs.Colouring.{PairColouring}
use Rattle.pair_colours.specs.declared.coloured_pairs.TheConstants.{MOST_POINTS}
use Rattle.trace_text.specs.declared.trace_faults.TraceFault.{TraceFault}
use Rattle.trace_text.specs.declared.trace_faults.TraceFault.TheVariants.{Text}
use Rattle.trace_text.specs.declared.trace_faults.TraceWord.TheVariants.{Points, Stage, End, Extra}
use Rattle.trace_text.specs.TraceFault.{at_head, at_points, at_stage, at_end, at_extra, next_row, next_closure_row, versioned, sized, fault_from, fault_on}
use Rattle.trace_text.specs.Versions.{IsVersion}
use Rattle.trace_text.specs.Reading.{IsFaultOf, rows_fault}
use Rattle.trace_text.proofs.LineReadings.{version_good}
use Rattle.trace_text.proofs.RowPlaces.{closure_rows, matrix_clean}
use Rattle.text_lines.specs.PointsLine.{points_on}
use Rattle.text_lines.specs.Rows.{matrix_lines}
use Rattle.text_lines.specs.LineCursor.{Cursor, first_passes}
use Rattle.text_lines.proofs.PointsLine.{points_good}

none_from : {X : Type 0} (o : Option X) → is_some o ≡ false → o ≡ None
none_from None e = refl
none_from (Some x) e = absurd cc

-- the first line was read, and v is the version
pub version_read : (v : ℕ) (start first : Cursor) → start.lines ≡ (codes "trace " ++ decimal v) ∷ first.lines → first.line ≡ start.line + 1 → IsVersion v
    → fault_from start.line at_head start.lines ≡ fault_from first.line (at_points v) first.lines
version_read v start first head line known =
    ap (fault_from start.line at_head) head
    ∙ ap (λ o. fault_on start.line at_head (versioned o) (λ next. fault_from (start.line + 1) next first.lines)) (version_good v known)
    ∙ ap (λ l. fault_from l (at_points v) first.lines) (sym line)

-- the second line was read, and n is the number of points
pub points_read : (v n : ℕ) (first now : Cursor) → first.lines ≡ (codes "points " ++ decimal n) ∷ now.lines → now.line ≡ first.line + 1 → 1 ≤ n → n ≤ MOST_POINTS
    → fault_from first.line (at_points v) first.lines ≡ fault_from now.line (at_stage v n) now.lines
points_read v n first now points line some few =
    ap (fault_from first.line (at_points v)) points
    ∙ ap (λ o. fault_on first.line (at_points v) (sized v o) (λ next. fault_from (first.line + 1) next now.lines)) (points_good n some few)
    ∙ ap (λ l. fault_from l (at_stage v n) now.lines) (sym line)

-- no second line
pub no_points : (v line : ℕ) (lines : List (List ℕ)) → first_passes (λ bytes. is_some (points_on bytes)) lines ≡ false → fault_from line (at_points v) lines ≡ Some (line, Points)
no_points v line [] e = refl
no_points v line (bytes ∷ rest) e = ap (λ o. fault_on line (at_points v) (sized v o) (λ next. fault_from (line + 1) next rest)) (none_from (points_on bytes) e)

-- no first stage
pub no_stage : (v line n : ℕ) (lines : List (List ℕ)) → first_passes (λ bytes. bytes_eq bytes (codes "stage")) lines ≡ false → fault_from line (at_stage v n) lines ≡ Some (line, Stage)
no_stage v line n [] e = refl
no_stage v line n (bytes ∷ rest) e = ap (λ b. fault_on line (at_stage v n) (cond b (Some (next_row v n n)) None) (λ next. fault_from (line + 1) next rest)) e

-- the first stage begins
pub stage_read : (v n : ℕ) (before now : Cursor) → before.lines ≡ codes "stage" ∷ now.lines → now.line ≡ before.line + 1
    → fault_from before.line (at_stage v n) before.lines ≡ fault_from now.line (next_row v n n) now.lines
stage_read v n before now lines line = ap (fault_from before.line (at_stage v n)) lines ∙ ap (λ l. fault_from l (next_row v n n) now.lines) (sym line)

-- the rows of the closure were read
pub closure_read : (n : ℕ) (before now : Cursor) (K : PairColouring) → rows_fault n n before.line before.lines ≡ None → before.lines ≡ matrix_lines K ++ now.lines → K.size ≡ n → now.line ≡ before.line + n
    → fault_from before.line (next_closure_row n n) before.lines ≡ fault_from now.line at_end now.lines
closure_read n before now K clean rows size line = matrix_clean n before.line now.line before.lines now.lines (next_closure_row n) K (closure_rows n) clean rows size line

-- no last line
pub no_end : (line : ℕ) (lines : List (List ℕ)) → first_passes (λ bytes. bytes_eq bytes (codes "end")) lines ≡ false → fault_from line at_end lines ≡ Some (line, End)
no_end line [] e = refl
no_end line (bytes ∷ rest) e = ap (λ b. fault_on line at_end (cond b (Some at_extra) None) (λ next. fault_from (line + 1) next rest)) e

-- the last line was read
pub end_read : (before now : Cursor) → before.lines ≡ codes "end" ∷ now.lines → now.line ≡ before.line + 1 → fault_from before.line at_end before.lines ≡ fault_from now.line at_extra now.lines
end_read before now lines line = ap (fault_from before.line at_end) lines ∙ ap (λ l. fault_from l at_extra now.lines) (sym line)

-- and one more
pub one_more : (line : ℕ) (lines : List (List ℕ)) → 0 < length lines → fault_from line at_extra lines ≡ Some (line, Extra)
one_more line [] h = absurd (omega (arith, h))
one_more line (bytes ∷ rest) h = refl

-- what follows the last line is a fault
pub end_fault : {X : Type 0} (result : Result X TraceFault) (before now : Cursor) → before.lines ≡ codes "end" ∷ now.lines → now.line ≡ before.line + 1
    → IfErr result (λ _. 0 < length now.lines) → IfErr result (λ fault. fault ≡ Text now.line Extra) → IfErr result (λ fault. IsFaultOf fault (fault_from before.line at_end before.lines))
end_fault (Ok x) before now lines line some e = tt
end_fault (Err fault) before now lines line some e =
    subst (λ told. IsFaultOf told (fault_from before.line at_end before.lines)) (sym e) (end_read before now lines line ∙ one_more now.line now.lines some)
