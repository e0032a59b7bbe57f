use Rattle.equitable.specs.CellSplit.{HasFollowed}
use Rattle.std.proofs.Common.{take}
use Rattle.equitable.proofs.checking.follow.Given as goal

abbrev pub invariant-loop-i : goal.invariant-loop-i
invariant-loop-i l = HasFollowed l.arcs l.fn.partition l.partition (take l.i l.steps)
