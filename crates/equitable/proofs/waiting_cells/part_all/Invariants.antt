use Rattle.equitable.specs.Acceptance.{IsReached}
use Rattle.equitable.proofs.waiting_cells.part_all.Given as goal

abbrev pub invariant-loop-turn : goal.invariant-loop-turn
invariant-loop-turn l = IsReached l.arcs l.partition l.steps
