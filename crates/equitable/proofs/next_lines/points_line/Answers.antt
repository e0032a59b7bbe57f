use Rattle.std.proofs.Common.{◌∷◌, ap, sym, ◌∙◌}
use Rattle.text_lines.proofs.PointsLine.{points_back}
use Rattle.equitable.proofs.next_lines.points_line.Goals as goal

pub returns-in-Some-clause-taken : goal.returns-in-Some-clause-taken
returns-in-Some-clause-taken c =
    c.in_ok-bytes.ensures.taken
    ∙ ap (λ l. l ∷ c.next_line.new.cursor.lines) (points_back c.in_ok-bytes.bytes.now c.in-Some.points (sym c.in-Some.ensures)).spelled
