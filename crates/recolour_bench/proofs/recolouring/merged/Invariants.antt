use Rattle.std.proofs.Common.{◌+◌, ◌*◌}
use Rattle.recolour_bench.proofs.Merging.{IsMergedTo}
use Rattle.recolour_bench.proofs.recolouring.merged.Given as goal

abbrev pub invariant-loop-y : goal.invariant-loop-y
invariant-loop-y l = IsMergedTo l.colouring l.next l.string (l.x * l.size + l.y)

abbrev pub invariant-loop-x : goal.invariant-loop-x
invariant-loop-x l = IsMergedTo l.colouring l.next l.string (l.x * l.size)
