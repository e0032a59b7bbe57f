use Rattle.std.proofs.Common.{◌≡◌}
use Rattle.visitors.specs.Masks.{members_of}
use Rattle.good_subsets.proofs.listing.list_colours.Given as goal

abbrev pub invariant-loop-colour : goal.invariant-loop-colour
invariant-loop-colour l = l.set.items ≡ members_of l.colour l.mask
