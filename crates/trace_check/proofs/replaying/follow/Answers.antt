use Rattle.std.proofs.Common.{◌+◌}
use Rattle.trace_text.proofs.StepLoops.{lead_taken, failing_step}
use Rattle.trace_check.proofs.replaying.follow.Goals as goal

pub returns-in-Some-clause-refused : goal.returns-in-Some-clause-refused
returns-in-Some-clause-refused c =
    let refused = rw c.in-Some.is at c.in_ok-what.ensures.refused in
    failing_step c.args.steps.now c.loop-i.i c.args.line c.at.result c.args.cells.now c.loop-i.cells c.in-Some.what c.at.ensures
    c.loop-i.invariant (refused (c.args.line + c.loop-i.i))

pub loop-i-preserved : goal.loop-i-preserved
loop-i-preserved c =
    let split = rw c.in_default.is at c.in_ok-what.ensures.split in
    lead_taken c.args.steps.now c.loop-i.i c.at.result c.args.cells.now c.loop-i.cells c.make.new.cells c.at.ensures c.loop-i.invariant split
