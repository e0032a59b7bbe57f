use Rattle.std.proofs.Common.{◌≡◌, ℕ, ◌<◌, length, get_or}
use Rattle.pair_colours.specs.ColourSets.{is_in}
use Rattle.quotients.specs.Quotient.{least_of}
use Rattle.quotients.proofs.classes.least_points.Given as goal

abbrev pub invariant-loop-x : goal.invariant-loop-x
invariant-loop-x l = record {
  len : length l.leasts.items ≡ l.x;
  is : (z : ℕ) → z < l.x → get_or l.leasts.items z 0 ≡ least_of l.k (is_in l.members) z;
}
