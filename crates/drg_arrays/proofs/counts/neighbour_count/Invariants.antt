use Rattle.std.proofs.Common.{◌≡◌, ◌≤◌}
use Rattle.std.specs.List.{count_by}
use Rattle.pair_colours.specs.Colouring.{points}
use Rattle.drg_arrays.proofs.Counting.{is_counted}
use Rattle.drg_arrays.proofs.counts.neighbour_count.Given as goal

abbrev pub invariant-loop-w : goal.invariant-loop-w
invariant-loop-w l = record {
  counted : l.count ≡ count_by (is_counted l.graph l.distances l.u l.v l.end) (points l.w);
  few : l.count ≤ l.w;
}
