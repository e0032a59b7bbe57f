use Rattle.std.proofs.Common.{◌≡◌, ℕ, ◌+◌, ◌*◌, ◌<◌, get_or}
use Rattle.wl_round.proofs.row_codes.covers.Given as goal

abbrev pub invariant-loop-z : goal.invariant-loop-z
invariant-loop-z l = (w : ℕ) → w < l.z → (v : ℕ) × (v < l.size) × (get_or l.class (l.a * l.size + v) 0 ≡ get_or l.class (l.x * l.size + w) 0)
