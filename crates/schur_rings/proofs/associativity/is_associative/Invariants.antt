use Rattle.std.proofs.Common.{◌≡◌, ℕ, ◌<◌, ◌≤◌, length}
use Rattle.pair_colours.specs.declared.coloured_pairs.TheConstants.{MOST_POINTS}
use Rattle.schur_rings.specs.Axioms.{AreMiddles, AreTested, IsMiddle}
use Rattle.schur_rings.proofs.associativity.is_associative.Given as goal

abbrev pub invariant-loop-y : goal.invariant-loop-y
invariant-loop-y l = record {
  marks : AreMiddles l.table l.known;
  room : length l.tested ≡ MOST_POINTS;
  few : l.count ≤ l.y;
  tested : AreTested l.table l.tested l.count;
  before : (v : ℕ) → v < l.y → IsMiddle l.table v;
}
