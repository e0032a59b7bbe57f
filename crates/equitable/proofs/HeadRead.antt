-- The first lines and the last ones, read one by one.
use Rattle.std.proofs.Common.{◌≡◌, ℕ, ◌+◌, ◌<◌, ◌≤◌, true, false, cond, List, [], ◌∷◌, ◌++◌, length, Option, Some, None, Result, Ok, Err, refl, sym, ap, subst, ◌∙◌, arith}
use Rattle.std.specs.Prelude.{codes, decimal, bytes_eq, is_some, IfErr}
use Rattle.pair_colours.specs.declared.coloured_pairs.TheConstants.{MOST_POINTS}
use Rattle.text_lines.specs.LineNumbers.{is_row_to}
use Rattle.text_lines.specs.PointsLine.{points_on}
use Rattle.text_lines.specs.LineCursor.{Cursor, first_passes}
use Rattle.text_lines.proofs.PointsLine.{points_good}
use Rattle.equitable.specs.declared.limits.TheConstants.{MOST_CELL}
use Rattle.equitable.specs.declared.text_faults.CellTextFault.{CellTextFault}
use Rattle.equitable.specs.declared.text_faults.CellTextFault.TheVariants.{Text}
use Rattle.equitable.specs.declared.text_faults.CellWord.TheVariants.{Head, Points, Row, End, Extra}
use Rattle.equitable.specs.TextFault.{at_head, at_points, at_cells, at_end, at_extra, next_row, sized, fault_from, fault_on}
use Rattle.equitable.specs.Reading.{IsFaultOf}

none_from : {X : Type 0} (o : Option X) → is_some o ≡ false → o ≡ None
none_from None e = refl
none_from (Some x) e = absurd cc

-- no first line
pub no_head : (line : ℕ) (lines : List (List ℕ)) → first_passes (λ bytes. bytes_eq bytes (codes "cells 1")) lines ≡ false
    → fault_from line at_head lines ≡ Some (line, Head)
no_head line [] e = refl
no_head line (bytes ∷ rest) e = ap (λ b. fault_on line at_head (cond b (Some at_points) None) (λ next. fault_from (line + 1) next rest)) e

-- the first line was read
pub head_read : (start first : Cursor) → start.lines ≡ codes "cells 1" ∷ first.lines → first.line ≡ start.line + 1
    → fault_from start.line at_head start.lines ≡ fault_from first.line at_points first.lines
head_read start first head line = ap (fault_from start.line at_head) head ∙ ap (λ l. fault_from l at_points first.lines) (sym line)

-- no second line
pub no_points : (line : ℕ) (lines : List (List ℕ)) → first_passes (λ bytes. is_some (points_on bytes)) lines ≡ false
    → fault_from line at_points lines ≡ Some (line, Points)
no_points line [] e = refl
no_points line (bytes ∷ rest) e = ap (λ o. fault_on line at_points (sized o) (λ next. fault_from (line + 1) next rest)) (none_from (points_on bytes) e)

-- the second line was read, and n is the number of points
pub points_read : (n : ℕ) (first now : Cursor) → first.lines ≡ (codes "points " ++ decimal n) ∷ now.lines → now.line ≡ first.line + 1 → 1 ≤ n
    → n ≤ MOST_POINTS
    → fault_from first.line at_points first.lines ≡ fault_from now.line (next_row n n) now.lines
points_read n first now points line some few =
    ap (fault_from first.line at_points) points
    ∙ ap (λ o. fault_on first.line at_points (sized o) (λ next. fault_from (first.line + 1) next now.lines)) (points_good n some few)
    ∙ ap (λ l. fault_from l (next_row n n) now.lines) (sym line)

-- the row of the claimed cells is missing, is none, or was read
pub cells_missing : (n line : ℕ) (lines : List (List ℕ)) → lines ≡ [] → fault_from line (at_cells n) lines ≡ Some (line, Row)
cells_missing n line lines e = ap (fault_from line (at_cells n)) e

pub cells_bad : (n line : ℕ) (lines rest : List (List ℕ)) (bytes : List ℕ) → lines ≡ bytes ∷ rest → is_row_to MOST_CELL n bytes ≡ false
    → fault_from line (at_cells n) lines ≡ Some (line, Row)
cells_bad n line lines rest bytes e f =
    ap (fault_from line (at_cells n)) e
    ∙ ap (λ b. fault_on line (at_cells n) (cond b (Some at_end) None) (λ next. fault_from (line + 1) next rest)) f

pub cells_read : (n line next : ℕ) (lines rest : List (List ℕ)) (bytes : List ℕ) → lines ≡ bytes ∷ rest → next ≡ line + 1 → is_row_to MOST_CELL n bytes ≡ true
    → fault_from line (at_cells n) lines ≡ fault_from next at_end rest
cells_read n line next lines rest bytes e after t =
    ap (fault_from line (at_cells n)) e
    ∙ ap (λ b. fault_on line (at_cells n) (cond b (Some at_end) None) (λ place. fault_from (line + 1) place rest)) t
    ∙ ap (λ l. fault_from l at_end rest) (sym after)

-- no last line
pub no_end : (line : ℕ) (lines : List (List ℕ)) → first_passes (λ bytes. bytes_eq bytes (codes "end")) lines ≡ false
    → fault_from line at_end lines ≡ Some (line, End)
no_end line [] e = refl
no_end line (bytes ∷ rest) e = ap (λ b. fault_on line at_end (cond b (Some at_extra) None) (λ next. fault_from (line + 1) next rest)) e

-- the last line was read
pub end_read : (before now : Cursor) → before.lines ≡ codes "end" ∷ now.lines → now.line ≡ before.line + 1
    → fault_from before.line at_end before.lines ≡ fault_from now.line at_extra now.lines
end_read before now lines line = ap (fault_from before.line at_end) lines ∙ ap (λ l. fault_from l at_extra now.lines) (sym line)

-- and one more
pub one_more : (line : ℕ) (lines : List (List ℕ)) → 0 < length lines → fault_from line at_extra lines ≡ Some (line, Extra)
one_more line [] h = absurd (omega (arith, h))
one_more line (bytes ∷ rest) h = refl

-- what follows the last line is a fault
pub end_fault : {X : Type 0} (result : Result X CellTextFault) (before now : Cursor) → before.lines ≡ codes "end" ∷ now.lines → now.line ≡ before.line + 1
    → IfErr result (λ _. 0 < length now.lines) → IfErr result (λ fault. fault ≡ Text now.line Extra)
    → IfErr result (λ fault. IsFaultOf fault (fault_from before.line at_end before.lines))
end_fault (Ok x) before now lines line some e = tt
end_fault (Err fault) before now lines line some e =
    subst (λ told. IsFaultOf told (fault_from before.line at_end before.lines)) (sym e) (end_read before now lines line ∙ one_more now.line now.lines some)
