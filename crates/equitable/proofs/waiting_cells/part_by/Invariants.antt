use Rattle.equitable.specs.Acceptance.{IsReached}
use Rattle.equitable.proofs.waiting_cells.part_by.Given as goal

abbrev pub invariant-loop-cell : goal.invariant-loop-cell
invariant-loop-cell l = IsReached l.arcs l.partition l.steps
