use Rattle.std.proofs.Common.{ℕ, ◌+◌, ◌<◌, [], map, get_or, vec_items}
use Rattle.colour_wl.specs.GrowthStrings.{IsBefore}
use Rattle.mergings.proofs.searching.is_rising.Given as goal

abbrev pub invariant-loop-i : goal.invariant-loop-i
invariant-loop-i l = (k : ℕ) → k + 1 < l.i → IsBefore (get_or (map vec_items l.list) k []) (get_or (map vec_items l.list) (k + 1) [])
