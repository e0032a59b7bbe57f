use Rattle.split_cells.specs.PartNumbers.{IsShownTo}
use Rattle.split_cells.proofs.renumbering.part_numbers.Given as goal

abbrev pub invariant-loop-place : goal.invariant-loop-place
invariant-loop-place l = IsShownTo l.partition l.round l.parts.numbers.items l.parts.seen.items l.parts.fresh l.place
