use Rattle.wl_refine.specs.Way.{LeadsOn}
use Rattle.wl_refine.proofs.searching.Search.sweep.Given as goal

abbrev pub invariant-loop-k : goal.invariant-loop-k
invariant-loop-k l = LeadsOn l.fn.way l.way
