use Rattle.std.proofs.Common.{take}
use Rattle.trace_text.specs.Split.{Lead}
use Rattle.trace_check.proofs.replaying.follow.Given as goal

abbrev pub invariant-loop-i : goal.invariant-loop-i
invariant-loop-i l = Lead (take l.i l.steps) l.fn.cells l.cells
