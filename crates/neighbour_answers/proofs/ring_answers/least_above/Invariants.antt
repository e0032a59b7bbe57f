use Rattle.std.proofs.Common.{◌≡◌, ◌≤◌, take}
use Rattle.colour_wl.specs.GrowthStrings.{next_number}
use Rattle.neighbour_answers.proofs.ring_answers.least_above.Given as goal

abbrev pub invariant-loop-number : goal.invariant-loop-number
invariant-loop-number l = record {
  next : l.next ≡ next_number (take l.number-index l.numbers);
  few : l.next ≤ l.number-index;
}
