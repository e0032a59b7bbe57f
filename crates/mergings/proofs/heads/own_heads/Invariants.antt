use Rattle.std.proofs.Common.{◌≡◌, ℕ, ◌<◌, length, slice_index}
use Rattle.mergings.proofs.heads.own_heads.Given as goal

abbrev pub invariant-loop-colour : goal.invariant-loop-colour
invariant-loop-colour l = record {
  len : length l.heads ≡ length l.fn.heads;
  own : (c : ℕ) → c < l.colour → slice_index l.heads c ≡ c;
}
