use Rattle.split_cells.proofs.CodeTables.{IsShortTo}
use Rattle.split_cells.proofs.codes.short_numbers.Given as goal

abbrev pub invariant-loop-x : goal.invariant-loop-x
invariant-loop-x l = IsShortTo l.pairs l.x l.short
