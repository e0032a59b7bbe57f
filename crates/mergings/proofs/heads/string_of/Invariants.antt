use Rattle.std.proofs.Common.{◌≡◌, ◌≤◌}
use Rattle.colour_wl.specs.GrowthStrings.{next_number, IsGrowth}
use Rattle.mergings.specs.Searches.{IsOfHeads}
use Rattle.mergings.proofs.heads.string_of.Given as goal

abbrev pub invariant-loop-colour : goal.invariant-loop-colour
invariant-loop-colour l = record {
  next : l.next ≡ next_number l.string.items;
  low : l.next ≤ l.colour;
  growth : IsGrowth l.colour l.string.items;
  same : IsOfHeads l.heads l.string.items;
}
