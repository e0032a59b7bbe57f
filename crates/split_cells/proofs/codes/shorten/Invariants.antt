use Rattle.split_cells.proofs.CodeTables.{IsShortenedTo}
use Rattle.split_cells.proofs.codes.shorten.Given as goal

abbrev pub invariant-loop-z : goal.invariant-loop-z
invariant-loop-z l = IsShortenedTo l.pairs l.x l.fn.short l.z l.short
