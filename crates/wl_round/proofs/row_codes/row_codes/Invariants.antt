use Rattle.std.proofs.Common.{◌≡◌, ℕ, ◌*◌, ◌<◌, length, get_or}
use Rattle.wl_round.specs.RowCodes.{IsRowTried}
use Rattle.wl_round.proofs.row_codes.row_codes.Given as goal

abbrev pub invariant-loop-a : goal.invariant-loop-a
invariant-loop-a l = record {
  short_len : length l.short.items ≡ l.size * l.size;
  low : (k : ℕ) → get_or l.short.items k 0 < l.size;
  leads_len : length l.codes.leads.items ≡ l.size;
  places_len : length l.codes.places.items ≡ l.size * l.size;
  tried : (x : ℕ) → x < l.size → IsRowTried l.size l.class l.a l.codes.leads.items l.codes.places.items x;
}
