use Rattle.std.proofs.Common.{subst}
use Rattle.pair_colours.specs.Colouring.{PairColouring}
use Rattle.trace_text.specs.Partition.{IsPartition}
use Rattle.split_cells.proofs.Labelled.{IsPartition-shown}
use Rattle.split_cells.proofs.cells.Cells.size.Goals as goal

pub returns-clause-within : goal.returns-clause-within
returns-clause-within c = subst (λ (P : PairColouring). IsPartition P) c.self.view_is (IsPartition-shown c.self.invariant.shown)
