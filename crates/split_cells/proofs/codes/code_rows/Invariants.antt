use Rattle.std.proofs.Common.{◌*◌}
use Rattle.split_cells.specs.Codes.{IsCodedTo}
use Rattle.split_cells.proofs.codes.code_rows.Given as goal

abbrev pub invariant-loop-x : goal.invariant-loop-x
invariant-loop-x l = IsCodedTo l.pairs l.short (l.x * l.pairs.size) l.codes
