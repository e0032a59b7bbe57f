use Rattle.std.proofs.Common.{◌≤◌, ◌-◌, length}
use Rattle.wl_round.specs.Comparing.{IsRoom}
use Rattle.wl_round.proofs.Swept.{IsSweptTo}
use Rattle.wl_round.proofs.sweeping.mark_runs.Given as goal

abbrev pub invariant-loop-start : goal.invariant-loop-start
invariant-loop-start l = record {
  within : l.start ≤ length l.places;
  room : IsRoom l.sides.size l.room;
  swept : IsSweptTo l.sides l.numbers l.places l.start l.marks l.found;
}

abbrev pub decreases-loop-start : goal.decreases-loop-start
decreases-loop-start l = length l.places - l.start
