use Rattle.wl_refine.proofs.Leading.{classes_left}
use Rattle.wl_refine.proofs.MadeRounds.{AreMade}
use Rattle.wl_refine.proofs.round_chains.rounds_from.Given as goal

abbrev pub invariant-loop-steps : goal.invariant-loop-steps
invariant-loop-steps l = AreMade l.fn.start l.steps l.last

abbrev pub decreases-loop-steps : goal.decreases-loop-steps
decreases-loop-steps l = classes_left l.last
