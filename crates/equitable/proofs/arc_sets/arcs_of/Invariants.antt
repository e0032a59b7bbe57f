use Rattle.std.proofs.Common.{◌≡◌, ◌<◌, ℕ, length, get_or, if◌then◌else◌}
use Rattle.pair_colours.specs.ColourSets.{is_in}
use Rattle.equitable.proofs.arc_sets.arcs_of.Given as goal

abbrev pub invariant-loop-place : goal.invariant-loop-place
invariant-loop-place l = record {
  size : l.arcs.size ≡ l.relation.size;
  pairs : length l.arcs.colours ≡ length l.relation.colours;
  bits : (k : ℕ) → k < l.place → get_or l.arcs.colours k 0 ≡ (if is_in l.set (get_or l.relation.colours k 0) then 1 else 0);
}
