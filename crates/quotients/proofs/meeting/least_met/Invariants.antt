use Rattle.std.proofs.Common.{◌+◌, ◌*◌}
use Rattle.quotients.proofs.Filling.{IsMetTo}
use Rattle.quotients.proofs.meeting.least_met.Given as goal

abbrev pub invariant-loop-y : goal.invariant-loop-y
invariant-loop-y l = IsMetTo l.k l.leasts 4294967295 l.met (l.x * l.k.size + l.y)

abbrev pub invariant-loop-x : goal.invariant-loop-x
invariant-loop-x l = IsMetTo l.k l.leasts 4294967295 l.met (l.x * l.k.size)
