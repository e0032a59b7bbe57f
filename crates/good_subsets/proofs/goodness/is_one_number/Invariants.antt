use Rattle.std.proofs.Common.{◌≡◌, ℕ, ◌<◌, slice_index}
use Rattle.good_subsets.proofs.goodness.is_one_number.Given as goal

abbrev pub invariant-loop-i : goal.invariant-loop-i
invariant-loop-i l = (j : ℕ) → j < l.i → slice_index l.numbers (slice_index l.places j) ≡ slice_index l.numbers (slice_index l.places 0)
