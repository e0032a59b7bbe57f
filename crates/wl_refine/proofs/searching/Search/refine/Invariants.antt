use Rattle.wl_refine.specs.Way.{LeadsOn}
use Rattle.wl_refine.proofs.searching.Search.refine.Given as goal

abbrev pub invariant-loop : goal.invariant-loop
invariant-loop l = LeadsOn l.fn.way l.way
