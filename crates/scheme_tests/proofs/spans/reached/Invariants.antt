use Rattle.scheme_tests.specs.Steps.{IsSpread, work_left}
use Rattle.scheme_tests.proofs.spans.reached.Given as goal

abbrev pub invariant-loop-x : goal.invariant-loop-x
invariant-loop-x l = IsSpread l.k l.class l.marks.items l.waiting.items

abbrev pub decreases-loop-x : goal.decreases-loop-x
decreases-loop-x l = work_left l.marks.items l.waiting.items
