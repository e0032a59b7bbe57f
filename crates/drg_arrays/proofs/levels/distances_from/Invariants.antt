use Rattle.drg_arrays.specs.Tables.{unreached_count}
use Rattle.drg_arrays.proofs.Searches.{IsLevelled}
use Rattle.drg_arrays.proofs.levels.distances_from.Given as goal

abbrev pub invariant-loop-level : goal.invariant-loop-level
invariant-loop-level l = IsLevelled l.graph l.x l.levels.items l.level

abbrev pub decreases-loop-level : goal.decreases-loop-level
decreases-loop-level l = unreached_count l.levels.items
