use Rattle.triangle_count.proofs.Tallies.{IsRun}
use Rattle.triangle_count.proofs.runs.runs.Given as goal

abbrev pub invariant-loop-i : goal.invariant-loop-i
invariant-loop-i l = IsRun l.codes l.start l.i l.entries.items
