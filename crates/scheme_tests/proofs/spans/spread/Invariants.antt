use Rattle.std.proofs.Common.{◌≡◌}
use Rattle.scheme_tests.specs.Steps.{IsSpreadTo, work_left}
use Rattle.scheme_tests.proofs.spans.spread.Given as goal

abbrev pub invariant-loop-y : goal.invariant-loop-y
invariant-loop-y l = IsSpreadTo l.k l.class l.x l.y l.marks.items l.waiting.items × (work_left l.marks.items l.waiting.items ≡ work_left l.initial.marks.items l.initial.waiting.items)
