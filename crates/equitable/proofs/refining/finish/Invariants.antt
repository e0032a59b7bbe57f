use Rattle.std.proofs.Common.{◌-◌, length}
use Rattle.equitable.specs.Acceptance.{IsReached}
use Rattle.equitable.specs.Equitable.{cell_count}
use Rattle.equitable.proofs.refining.finish.Given as goal

abbrev pub invariant-loop-step : goal.invariant-loop-step
invariant-loop-step l = IsReached l.arcs l.partition l.steps

abbrev pub decreases-loop-step : goal.decreases-loop-step
decreases-loop-step l = length l.partition - cell_count l.partition
