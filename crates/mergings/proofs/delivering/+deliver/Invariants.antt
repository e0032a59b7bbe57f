use Rattle.std.proofs.Common.{◌≡◌, ◌-◌, ◌<◌, length}
use Rattle.pair_colours.specs.Naming.{rank_of}
use Rattle.mergings.specs.Cuts.{IsDeliveredWhole}
use Rattle.colour_wl.specs.Fusions.{Fuses}
use Rattle.mergings.proofs.Deliveries.{branches}
use Rattle.mergings.proofs.delivering.+deliver.Given as goal

abbrev pub decreases-deliver : goal.decreases-deliver
decreases-deliver l = rank_of l.k.now - length l.string.now.items

abbrev pub invariant-loop-number : goal.invariant-loop-number
invariant-loop-number l = record {
  string : l.string.items ≡ l.fn.string.items;
  left : length l.met < l.room;
  met : IsDeliveredWhole (Fuses l.k) (branches (rank_of l.k) l.fn.string.items l.number) l.fn.met l.met;
}
