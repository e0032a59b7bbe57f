use Rattle.std.proofs.Common.{◌∷◌, ap, sym, ◌∙◌}
use Rattle.trace_text.proofs.LineReadings.{version_back}
use Rattle.trace_text.proofs.trace_cursor.TraceCursor.version.Goals as goal

pub returns-in-Some-clause-taken : goal.returns-in-Some-clause-taken
returns-in-Some-clause-taken c =
    c.in_ok-bytes.ensures.taken ∙ ap (λ l. l ∷ c.take.new.self.lines) (version_back c.in_ok-bytes.bytes.now c.in-Some.version (sym c.in-Some.ensures)).spelled
