use Rattle.std.proofs.Common.{◌≡◌, take, None}
use Rattle.pair_colours.specs.Naming.{walk}
use Rattle.pair_colours.proofs.FirstPair.{first_on}
use Rattle.pair_colours.proofs.coloured_pairs.Colouring.first_pair.Given as goal

abbrev pub invariant-loop-place : goal.invariant-loop-place
invariant-loop-place l = first_on l.self l.colour (take l.place (walk l.self.size)) ≡ None
