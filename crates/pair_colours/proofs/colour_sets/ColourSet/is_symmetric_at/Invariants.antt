use Rattle.std.proofs.Common.{◌≡◌, ℕ, ◌<◌, true}
use Rattle.pair_colours.specs.Colouring.{colour_at}
use Rattle.pair_colours.specs.ColourSets.{is_in}
use Rattle.pair_colours.proofs.colour_sets.ColourSet.is_symmetric_at.Given as goal

abbrev pub invariant-loop-y : goal.invariant-loop-y
invariant-loop-y l = (v : ℕ) → v < l.y → is_in l.self (colour_at l.relation l.x v) ≡ true → is_in l.self (colour_at l.relation v l.x) ≡ true
