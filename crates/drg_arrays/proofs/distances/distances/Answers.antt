use Rattle.std.proofs.Common.{◌++◌, ◌+◌, sym, subst, ap, ◌∙◌}
use Rattle.drg_arrays.specs.Tables.{IsDistanceTable}
use Rattle.drg_arrays.proofs.TableLemmas.{IsDistanceTable-more}
use Rattle.drg_arrays.proofs.distances.distances.Goals as goal

pub loop-x-preserved : goal.loop-x-preserved
loop-x-preserved c =
    let G = c.args.graph.now in
    subst (λ t. IsDistanceTable G t (c.loop-x.x + 1)) (sym (c.in_ok-extend_from_slice.ensures.items ∙ ap (λ r. c.loop-x.table.items ++ r) c.deref.ensures.value))
    (IsDistanceTable-more G c.loop-x.table.items c.in_ok-row.row.items c.loop-x.x c.loop-x.invariant c.in_ok-row.ensures)
