use Rattle.std.proofs.Common.{◌≡◌, map}
use Rattle.pair_colours.specs.Colouring.{points}
use Rattle.good_subsets.proofs.GoodTest.{mark}
use Rattle.good_subsets.proofs.goodness.marked.Given as goal

abbrev pub invariant-loop-colour : goal.invariant-loop-colour
invariant-loop-colour l = l.string.items ≡ map (mark l.set l.inside) (points l.colour-counter)
