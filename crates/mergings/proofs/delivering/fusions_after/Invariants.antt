use Rattle.std.proofs.Common.{◌-◌, ◌<◌, [], length, take}
use Rattle.pair_colours.specs.Naming.{rank_of}
use Rattle.mergings.specs.Cuts.{IsDeliveredWhole}
use Rattle.colour_wl.specs.Fusions.{FusesAfter}
use Rattle.colour_wl.specs.GrowthStrings.{growth_from}
use Rattle.mergings.proofs.delivering.fusions_after.Given as goal

abbrev pub invariant-loop-step : goal.invariant-loop-step
invariant-loop-step l = record {
  left : length l.met < l.room;
  met : IsDeliveredWhole (FusesAfter l.k l.after) (growth_from (take (l.rank - l.step) l.after) (rank_of l.k - length (take (l.rank - l.step) l.after))) [] l.met;
}
