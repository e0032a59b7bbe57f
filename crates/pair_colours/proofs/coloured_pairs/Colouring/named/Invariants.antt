use Rattle.std.proofs.Common.{◌≡◌, map, take}
use Rattle.pair_colours.specs.Naming.{name_of}
use Rattle.pair_colours.proofs.coloured_pairs.Colouring.named.Given as goal

abbrev pub invariant-loop-colour : goal.invariant-loop-colour
invariant-loop-colour l = l.colours.items ≡ map (name_of l.self) (take l.colour-index l.colour-items)
