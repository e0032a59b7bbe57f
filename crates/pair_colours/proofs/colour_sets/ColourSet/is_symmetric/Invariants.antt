use Rattle.std.proofs.Common.{◌≡◌, ℕ, ◌<◌, true}
use Rattle.pair_colours.specs.Colouring.{colour_at}
use Rattle.pair_colours.specs.ColourSets.{is_in}
use Rattle.pair_colours.proofs.colour_sets.ColourSet.is_symmetric.Given as goal

abbrev pub invariant-loop-x : goal.invariant-loop-x
invariant-loop-x l = (u v : ℕ) → u < l.x → v < l.relation.size → is_in l.self (colour_at l.relation u v) ≡ true → is_in l.self (colour_at l.relation v u) ≡ true
