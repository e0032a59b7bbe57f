use Rattle.std.proofs.Common.{◌≡◌, ℕ, ◌+◌, ◌*◌, ◌<◌, slice_index}
use Rattle.mergings.specs.Searches.{IsHead}
use Rattle.mergings.proofs.products.are_one.Given as goal

abbrev pub invariant-loop-y : goal.invariant-loop-y
invariant-loop-y l = (z : ℕ) → z < l.y → IsHead l.heads l.covered z → (k : ℕ) → k < l.rank → slice_index l.sums (z * 16 + k) ≡ slice_index l.sums (z * 16 + slice_index l.heads k)
