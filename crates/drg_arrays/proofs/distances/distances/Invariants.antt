use Rattle.drg_arrays.specs.Tables.{IsDistanceTable}
use Rattle.drg_arrays.proofs.distances.distances.Given as goal

abbrev pub invariant-loop-x : goal.invariant-loop-x
invariant-loop-x l = IsDistanceTable l.graph l.table.items l.x
