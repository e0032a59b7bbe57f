use Rattle.wl_refine.specs.Way.{LeadsOn}
use Rattle.wl_refine.proofs.Leading.{classes_left}
use Rattle.wl_refine.proofs.finishing.finish_by.Given as goal

abbrev pub invariant-loop-step : goal.invariant-loop-step
invariant-loop-step l = LeadsOn l.fn.way l.way

abbrev pub decreases-loop-step : goal.decreases-loop-step
decreases-loop-step l = classes_left l.way.cells
