use Rattle.std.proofs.Common.{ℕ, ◌<◌, get_or}
use Rattle.pair_colours.specs.Colouring.{IsColour}
use Rattle.pair_colours.proofs.colour_sets.is_colour_set.Given as goal

abbrev pub invariant-loop-number : goal.invariant-loop-number
invariant-loop-number l = (k : ℕ) → k < l.number-index → IsColour l.relation (get_or l.set k 0)
