use Rattle.std.proofs.Common.{sym, ap, subst, ◌∙◌}
use Rattle.pair_colours.specs.Colouring.{PairColouring}
use Rattle.pair_colours.specs.Naming.{rank_of}
use Rattle.trace_text.specs.Partition.{IsPartition}
use Rattle.split_cells.proofs.Labelled.{rank_shown, IsPartition-shown}
use Rattle.split_cells.proofs.cells.Cells.rank.Goals as goal

pub returns-clause-within : goal.returns-clause-within
returns-clause-within c = subst (λ (P : PairColouring). IsPartition P) c.self.view_is (IsPartition-shown c.self.invariant.shown)

pub returns-clause-rank : goal.returns-clause-rank
returns-clause-rank c = sym (rank_shown c.self.invariant.shown) ∙ ap rank_of c.self.view_is
