use Rattle.std.proofs.Common.{◌∷◌, ap, sym, ◌∙◌}
use Rattle.trace_text.proofs.trace_cursor.TraceCursor.points.Goals as goal
use Rattle.text_lines.proofs.PointsLine.{points_back}

pub returns-in-Some-clause-taken : goal.returns-in-Some-clause-taken
returns-in-Some-clause-taken c =
    c.in_ok-bytes.ensures.taken ∙ ap (λ l. l ∷ c.take.new.self.lines) (points_back c.in_ok-bytes.bytes.now c.in-Some.points (sym c.in-Some.ensures)).spelled
