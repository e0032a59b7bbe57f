use Rattle.std.proofs.Common.{◌≡◌, ◌≤◌, take}
use Rattle.colour_wl.specs.GrowthStrings.{next_number}
use Rattle.colour_wl.proofs.growing.next_of.Given as goal

abbrev pub invariant-loop-i : goal.invariant-loop-i
invariant-loop-i l = record {
  next : l.next ≡ next_number (take l.i l.string);
  low : l.next ≤ l.i;
}
