use Rattle.std.proofs.Common.{sym, subst}
use Rattle.trace_text.proofs.StepsRead.{ReadsSteps, steps_more}
use Rattle.trace_text.proofs.reader.read_steps.Goals as goal

pub loop-steps-preserved : goal.loop-steps-preserved
loop-steps-preserved c =
    subst (λ steps. ReadsSteps c.args.version c.args.cursor.now.line c.args.cursor.now.lines c.take.new.self.line c.take.new.self.lines steps) (sym c.in_ok-push.ensures.ok)
    (steps_more c.args.version c.args.cursor.now.line c.args.cursor.now.lines c.loop-steps.cursor.line c.take.new.self.line c.loop-steps.cursor.lines c.take.new.self.lines c.loop-steps.steps c.in_ok-bytes.bytes.now c.in-Some.step
    c.loop-steps.invariant c.in_ok-bytes.ensures.taken c.in_ok-bytes.ensures.number c.in-Some.ensures.0 c.in-Some.ensures.1)
