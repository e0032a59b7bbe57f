use Rattle.drg_arrays.proofs.Marks.{IsAdvance}
use Rattle.drg_arrays.proofs.levels.mark_next.Given as goal

abbrev pub invariant-loop-w : goal.invariant-loop-w
invariant-loop-w l = IsAdvance l.graph l.initial.levels l.levels l.level l.grew l.w
