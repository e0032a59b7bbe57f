use Rattle.std.proofs.Common.{◌≡◌, take}
use Rattle.pair_colours.specs.Naming.{walk}
use Rattle.pair_colours.proofs.Walked.{met_on}
use Rattle.pair_colours.proofs.coloured_pairs.Colouring.colours_met.Given as goal

abbrev pub invariant-loop-place : goal.invariant-loop-place
invariant-loop-place l = l.met.keys ≡ met_on l.self (take l.place (walk l.self.size))
