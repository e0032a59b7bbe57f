use Rattle.std.proofs.Common.{◌≡◌, ℕ, ◌<◌, get_or, nat_eq, Some}
use Rattle.indexmap.specs.IndexMap.{get}
use Rattle.pair_colours.proofs.numbering.determines.Given as goal

abbrev pub invariant-loop-i : goal.invariant-loop-i
invariant-loop-i l = record {
  kept : (k : ℕ) → k < l.i → get nat_eq l.over (get_or l.xs k 0) ≡ Some (get_or l.ys k 0);
  seen : (a b : ℕ) → get nat_eq l.over a ≡ Some b → (k : ℕ) × (k < l.i) × (get_or l.xs k 0 ≡ a) × (get_or l.ys k 0 ≡ b);
}
