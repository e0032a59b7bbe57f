use Rattle.good_subsets.proofs.GoodMasks.{AreGoodBefore}
use Rattle.good_subsets.proofs.listing.good_masks.Given as goal

abbrev pub invariant-loop-mask : goal.invariant-loop-mask
invariant-loop-mask l = AreGoodBefore l.k l.mask l.masks
