use Rattle.std.proofs.Common.{◌+◌, ◌*◌}
use Rattle.split_cells.specs.Codes.{IsCodedTo}
use Rattle.split_cells.proofs.codes.code_row.Given as goal

abbrev pub invariant-loop-z : goal.invariant-loop-z
invariant-loop-z l = IsCodedTo l.pairs l.short (l.x * l.pairs.size + l.z) l.codes
