use Rattle.std.proofs.Common.{◌≡◌, ◌==◌, ◌≤◌, count_by, take}
use Rattle.pair_colours.specs.Colouring.{colour_at}
use Rattle.equitable.proofs.cell_points.arcs_to.Given as goal

abbrev pub invariant-loop-z : goal.invariant-loop-z
invariant-loop-z l = record {
  counted : l.count ≡ count_by (λ z. colour_at l.arcs l.x z == 1) (take l.z-index l.members);
  few : l.count ≤ l.z-index;
}
