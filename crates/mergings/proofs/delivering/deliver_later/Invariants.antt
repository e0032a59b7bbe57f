use Rattle.std.proofs.Common.{◌≡◌, ◌-◌, ◌<◌, length, take}
use Rattle.std.specs.List.{range_with_len}
use Rattle.pair_colours.specs.Naming.{rank_of}
use Rattle.mergings.specs.Cuts.{IsDeliveredWhole}
use Rattle.colour_wl.specs.Fusions.{Fuses}
use Rattle.mergings.proofs.Resuming.{over}
use Rattle.mergings.proofs.delivering.deliver_later.Given as goal

abbrev pub invariant-loop-number : goal.invariant-loop-number
invariant-loop-number l = record {
  string : l.string.items ≡ take l.depth l.after;
  left : length l.met < l.room;
  met : IsDeliveredWhole (Fuses l.k) (over (rank_of l.k) (take l.depth l.after) (range_with_len l.first (l.number - l.first))) l.fn.met l.met;
}
