-- What holds where a stage ends: its partition stands between its colours and each coherent colouring that refines them.
use Rattle.std.specs.Prelude.{Option, None, Some, ⊤}
use Rattle.pair_colours.specs.Colouring.{PairColouring, IsColouring, Refines}
use Rattle.pair_colours.specs.Closure.{Coherent}
use Rattle.trace_text.specs.Partition.{IsPartition}
use Rattle.trace_text.specs.Chains.{StageEnd}

-- a partition that refines C, and that every coherent colouring that refines C refines
pub record IsBetween (C P : PairColouring) : Type 0 where
  pub colours : IsColouring C
  pub partition : IsPartition P
  pub refines : Refines P C
  pub keeps : (Q : PairColouring) → IsColouring Q → Coherent Q → Refines Q C → Refines Q P

-- where the stages up to here ended
abbrev pub IsEnd : Option StageEnd → Type 0
IsEnd None = ⊤
IsEnd (Some before) = IsBetween before.colours before.partition
