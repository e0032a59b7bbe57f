use Rattle.wl_refine.specs.Way.{LeadsOn}
use Rattle.wl_refine.proofs.searching.part_diagonal.Given as goal

abbrev pub invariant-loop-class : goal.invariant-loop-class
invariant-loop-class l = LeadsOn l.fn.way l.way
