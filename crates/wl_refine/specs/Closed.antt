-- A closure with the steps that lead to it.
use Rattle.std.specs.Prelude.{◌≡◌, ◌+◌, ◌≤◌, length}
use Rattle.std.specs.List.{AllByRecursion}
use Rattle.pair_colours.specs.Colouring.{PairColouring, IsColouring, Refines}
use Rattle.pair_colours.specs.Closure.{Coherent}
use Rattle.pair_colours.specs.Naming.{named_of, rank_of}
use Rattle.trace_text.specs.Split.{Lead}
use Rattle.trace_text.specs.Versions.{HasStep}
use Rattle.wl_refine.specs.declared.closing.Closed.{Closed}

-- the steps lead from the start, each by a split of one class, to a coherent partition, which the matrix names;
-- none is idle, so there are no more of them than classes that were added
pub record IsReached (start : PairColouring) (closed : Closed) : Type 0 where
  pub leads : Lead closed.steps start closed.last
  pub one_class : AllByRecursion (HasStep 1) closed.steps
  pub coherent : Coherent closed.last
  pub names : closed.matrix ≡ named_of closed.last
  pub few : length closed.steps + rank_of start ≤ rank_of closed.matrix

-- each coherent colouring that refines C refines E: nothing that E parts is left together in the closure of C
abbrev pub IsForced : PairColouring → PairColouring → Type 0
IsForced C E = (Q : PairColouring) → IsColouring Q → Coherent Q → Refines Q C → Refines Q E
