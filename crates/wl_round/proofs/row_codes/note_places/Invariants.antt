use Rattle.wl_round.proofs.RowCodeLemmas.{IsNotedFrom}
use Rattle.wl_round.proofs.row_codes.note_places.Given as goal

abbrev pub invariant-loop-z : goal.invariant-loop-z
invariant-loop-z l = IsNotedFrom l.size l.class l.a l.z l.short
