use Rattle.std.proofs.Common.{◌≡◌, ℕ, ◌+◌, ◌*◌, ◌<◌, slice_index}
use Rattle.mergings.proofs.products.is_one.Given as goal

abbrev pub invariant-loop-k : goal.invariant-loop-k
invariant-loop-k l = (m : ℕ) → m < l.k → slice_index l.sums (l.y * 16 + m) ≡ slice_index l.sums (l.y * 16 + slice_index l.heads m)
