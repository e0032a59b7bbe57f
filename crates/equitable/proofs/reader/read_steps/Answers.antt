use Rattle.std.proofs.Common.{sym, subst}
use Rattle.equitable.proofs.StepsRead.{ReadsSteps, steps_start, steps_more}
use Rattle.equitable.proofs.reader.read_steps.Goals as goal

pub loop-steps-init : goal.loop-steps-init
loop-steps-init c =
    subst (ReadsSteps c.args.cursor.now.line c.args.cursor.now.lines c.args.cursor.now.line c.args.cursor.now.lines) (sym c.new-steps.ensures)
    (steps_start c.args.cursor.now.line c.args.cursor.now.lines)

pub loop-steps-preserved : goal.loop-steps-preserved
loop-steps-preserved c =
    let read = rw c.in-Some.is at c.read_step.ensures in
    steps_more c.args.cursor.now.line c.args.cursor.now.lines c.loop-steps.cursor.line c.next_line.new.cursor.line c.loop-steps.cursor.lines
    c.next_line.new.cursor.lines c.loop-steps.steps c.push.new.self c.in_ok-bytes.bytes.now c.in-Some.step
    c.loop-steps.invariant c.in_ok-bytes.ensures.taken c.in_ok-bytes.ensures.number read.0 read.1 c.in_ok-push.ensures.ok
