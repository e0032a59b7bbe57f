use Rattle.std.proofs.Common.{◌+◌, ◌*◌}
use Rattle.recolour_bench.proofs.Joined.{IsJoinedTo}
use Rattle.recolour_bench.proofs.recolouring.joined.Given as goal

abbrev pub invariant-loop-y : goal.invariant-loop-y
invariant-loop-y l = IsJoinedTo l.colouring l.next l.keep l.gone (l.x * l.size + l.y)

abbrev pub invariant-loop-x : goal.invariant-loop-x
invariant-loop-x l = IsJoinedTo l.colouring l.next l.keep l.gone (l.x * l.size)
