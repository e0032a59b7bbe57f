use Rattle.visitors.specs.Masks.{HasBits}
use Rattle.good_subsets.proofs.GoodMasks.{is_diagonal}
use Rattle.good_subsets.proofs.necessary.diagonal_mask.Given as goal

abbrev pub invariant-loop-colour : goal.invariant-loop-colour
invariant-loop-colour l = HasBits l.colour l.mask (is_diagonal l.k)
