use Rattle.std.proofs.Common.{◌<◌, ◌≤◌, get_or, below_more, arith, ⊎_elim}
use Rattle.std.proofs.lemmas.Bool.{cases_lt}
use Rattle.drg_arrays.proofs.distances.greatest.Goals as goal

pub loop-distance-preserved : goal.loop-distance-preserved
loop-distance-preserved c = record {
  bound = below_more _ _ (λ k h. omega (arith, c.loop-distance.invariant.bound k h, c.max-greatest.ensures)) (omega (arith, c.max-greatest.ensures));
  found = ⊎_elim
      (λ (l : c.loop-distance.greatest < get_or c.args.table.now c.loop-distance.distance-index 0).
      (c.loop-distance.distance-index, omega arith, omega (arith, l, c.max-greatest.ensures)))
      (λ (l : get_or c.args.table.now c.loop-distance.distance-index 0 ≤ c.loop-distance.greatest).
      (c.loop-distance.invariant.found.0, c.loop-distance.invariant.found.1, omega (arith, l, c.max-greatest.ensures, c.loop-distance.invariant.found.2)))
      (cases_lt c.loop-distance.greatest (get_or c.args.table.now c.loop-distance.distance-index 0));
}
