use Rattle.wl_round.proofs.RowCodeLemmas.{IsWrittenTo}
use Rattle.wl_round.proofs.row_codes.write_places.Given as goal

abbrev pub invariant-loop-z : goal.invariant-loop-z
invariant-loop-z l = IsWrittenTo l.size l.class l.short l.x l.fn.places l.z l.places
