use Rattle.drg_arrays.proofs.Marks.{IsMarking}
use Rattle.drg_arrays.proofs.levels.mark_neighbours.Given as goal

abbrev pub invariant-loop-y : goal.invariant-loop-y
invariant-loop-y l = IsMarking l.graph l.w l.level l.initial.levels l.levels l.grew l.y
