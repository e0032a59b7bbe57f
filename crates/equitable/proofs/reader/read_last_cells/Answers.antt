use Rattle.std.proofs.Common.{◌∷◌, ◌≤◌, sym, ap, subst, ◌∙◌}
use Rattle.std.specs.List.{AllByRecursion}
use Rattle.text_lines.specs.Joined.{spaced}
use Rattle.text_lines.proofs.RowLines.{row_back}
use Rattle.equitable.specs.declared.limits.TheConstants.{MOST_CELL}
use Rattle.equitable.proofs.reader.read_last_cells.Goals as goal

pub returns-in_ok-listed-in-Some-clause-line : goal.returns-in_ok-listed-in-Some-clause-line
returns-in_ok-listed-in-Some-clause-line c =
    let read = rw c.in-Some.is at c.in_ok-cells.ensures in
    let back = row_back MOST_CELL c.args.size c.in_ok-bytes.bytes.now read.0 in
    c.in_ok-bytes.ensures.taken
    ∙ ap (λ l. l ∷ c.next_line.new.cursor.lines) (back.spelled ∙ ap spaced (sym (c.in_ok-listed-in-Some.ensures ∙ c.deref.ensures.value ∙ read.1)))

pub returns-in_ok-listed-in-Some-clause-small : goal.returns-in_ok-listed-in-Some-clause-small
returns-in_ok-listed-in-Some-clause-small c =
    let read = rw c.in-Some.is at c.in_ok-cells.ensures in
    let back = row_back MOST_CELL c.args.size c.in_ok-bytes.bytes.now read.0 in
    subst (AllByRecursion (λ cell. cell ≤ MOST_CELL)) (sym (c.in_ok-listed-in-Some.ensures ∙ c.deref.ensures.value ∙ read.1)) back.small
