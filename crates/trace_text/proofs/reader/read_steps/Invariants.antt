use Rattle.std.proofs.Common.{length}
use Rattle.trace_text.proofs.StepsRead.{ReadsSteps}
use Rattle.trace_text.proofs.reader.read_steps.Given as goal

abbrev pub invariant-loop-steps : goal.invariant-loop-steps
invariant-loop-steps l = ReadsSteps l.version l.initial.cursor.line l.initial.cursor.lines l.cursor.line l.cursor.lines l.steps

abbrev pub decreases-loop-steps : goal.decreases-loop-steps
decreases-loop-steps l = length l.cursor.lines
