use Rattle.std.proofs.Common.{◌≡◌, ℕ, ◌<◌, false}
use Rattle.pair_colours.specs.Colouring.{colour_at}
use Rattle.pair_colours.specs.ColourSets.{is_in}
use Rattle.pair_colours.proofs.colour_sets.ColourSet.is_loopless.Given as goal

abbrev pub invariant-loop-x : goal.invariant-loop-x
invariant-loop-x l = (u : ℕ) → u < l.x → is_in l.self (colour_at l.relation u u) ≡ false
