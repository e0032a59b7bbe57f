use Rattle.std.proofs.Common.{◌≡◌, ℕ, ◌+◌, ◌*◌, ◌<◌, ◌≤◌, length}
use Rattle.wl_round.specs.RowCodes.{IsRowTried}
use Rattle.wl_round.proofs.row_codes.try_rows.Given as goal

abbrev pub invariant-loop-x : goal.invariant-loop-x
invariant-loop-x l = record {
  leads_len : length l.codes.leads.items ≡ l.size;
  places_len : length l.codes.places.items ≡ l.size * l.size;
  done : (y : ℕ) → y < l.x → IsRowTried l.size l.class (l.a + 1) l.codes.leads.items l.codes.places.items y;
  rest : (y : ℕ) → l.x ≤ y → y < l.size → IsRowTried l.size l.class l.a l.codes.leads.items l.codes.places.items y;
}
