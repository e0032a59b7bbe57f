use Rattle.std.proofs.Common.{◌≡◌, ◌==◌, ℕ, ◌<◌, get_or}
use Rattle.pair_colours.specs.Colouring.{colour_at}
use Rattle.pair_colours.specs.ColourSets.{is_in}
use Rattle.quotients.proofs.classes.is_class_at.Given as goal

abbrev pub invariant-loop-y : goal.invariant-loop-y
invariant-loop-y l = (z : ℕ) → z < l.y → is_in l.members (colour_at l.k l.x z) ≡ (get_or l.leasts l.x 0 == get_or l.leasts z 0)
