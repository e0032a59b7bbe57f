use Rattle.trace_text.proofs.StageLoops.{GoneThrough}
use Rattle.trace_check.specs.Ends.{before_of}
use Rattle.trace_check.proofs.checking.check_after.Given as goal

abbrev pub invariant-loop-stage : goal.invariant-loop-stage
invariant-loop-stage l = GoneThrough l.stage-items l.stage-index (before_of l.last) l.line l.steps
