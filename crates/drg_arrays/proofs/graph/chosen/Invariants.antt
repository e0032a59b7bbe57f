use Rattle.std.proofs.Common.{◌≡◌, map, take}
use Rattle.pair_colours.specs.ColourSets.{is_in}
use Rattle.drg_arrays.proofs.graph.chosen.Given as goal

abbrev pub invariant-loop-colour : goal.invariant-loop-colour
invariant-loop-colour l = l.edges.items ≡ map (is_in l.set) (take l.colour-index l.colours)
