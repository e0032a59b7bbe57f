use Rattle.wl_refine.specs.Way.{LeadsOn}
use Rattle.wl_refine.proofs.searching.part_by_fibres.Given as goal

abbrev pub invariant-loop : goal.invariant-loop
invariant-loop l = LeadsOn l.fn.way l.way
