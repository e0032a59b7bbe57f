use Rattle.colour_wl.specs.BlockSums.{transposed}
use Rattle.visitors.specs.Masks.{is_member, HasBits}
use Rattle.good_subsets.proofs.transposing.transposes_of.Given as goal

abbrev pub invariant-loop-colour : goal.invariant-loop-colour
invariant-loop-colour l = HasBits l.colour l.turned (λ c. is_member l.mask (transposed l.k c))
