use Rattle.std.proofs.Common.{map}
use Rattle.pair_colours.specs.Colouring.{points}
use Rattle.pair_colours.specs.ClosedSet.{IsClosedSet}
use Rattle.pair_colours.specs.ColourSets.{is_in}
use Rattle.pair_colours.specs.Naming.{rank_of}
use Rattle.pair_colours.specs.Those.{AreThose}
use Rattle.visitors.specs.Masks.{members_of}
use Rattle.closed_subsets.proofs.listing.closed_masks.Given as goal

-- the closed sets of the masks before this one were listed
abbrev pub invariant-loop-mask : goal.invariant-loop-mask
invariant-loop-mask l = AreThose (λ set. IsClosedSet l.k (is_in set)) (map (members_of (rank_of l.k)) (points l.mask)) (map (members_of (rank_of l.k)) l.masks.items)
