-- Chains of stages: each stage starts where its colours and the stage before let it start, and its steps lead on by splits.
use Rattle.std.specs.Prelude.{List, [], ◌∷◌, fold, Option, None, Some, option_map, ⊤}
use Rattle.pair_colours.specs.Colouring.{PairColouring, Refines}
use Rattle.pair_colours.specs.Naming.{named_of}
use Rattle.trace_text.specs.declared.stage_list.Stage.{Stage}
use Rattle.trace_text.specs.Partition.{meet_of}
use Rattle.trace_text.specs.Split.{Lead, partition_after}

-- where a stage ended: its colours, and the partition after its steps
pub record StageEnd : Type 0 where
  pub colours : PairColouring
  pub partition : PairColouring

-- the colours of a stage refine those of the stage before it, if there is one
abbrev pub Follows : Option StageEnd → PairColouring → Type 0
Follows None C = ⊤
Follows (Some before) C = Refines C before.colours

-- the partition where a stage ended, if there was one
abbrev pub partition_before : Option StageEnd → Option PairColouring
partition_before before = option_map (λ end. end.partition) before

-- where a stage of these colours starts: at their naming or, after a stage that ended at a partition, at their named meet with it
abbrev pub stage_start : Option PairColouring → PairColouring → PairColouring
stage_start None C = named_of C
stage_start (Some last) C = meet_of C last

-- the stage may stand after one that ended so, and its steps lead from its start to P
pub record IsStageOf (before : Option StageEnd) (stage : Stage) (P : PairColouring) : Type 0 where
  pub follows : Follows before stage.colours
  pub leads : Lead stage.steps (stage_start (partition_before before) stage.colours) P

-- where the stage ends
abbrev pub stage_end : Option StageEnd → Stage → StageEnd
stage_end before stage = record { colours = stage.colours; partition = partition_after (stage_start (partition_before before) stage.colours) stage.steps }

-- where the last of the stages ends, if there is one, after one that ended so
abbrev pub end_after : Option StageEnd → List Stage → Option StageEnd
end_after before stages = fold (λ earlier stage. Some (stage_end earlier stage)) before stages

-- where a chain ends, if it has a stage
abbrev pub chain_end : List Stage → Option StageEnd
chain_end stages = end_after None stages

-- the stages may stand one after the other, after one that ended so
abbrev pub AreStages : Option StageEnd → List Stage → Type 0
AreStages before [] = ⊤
AreStages before (stage ∷ rest) = IsStageOf before stage (stage_end before stage).partition × AreStages (Some (stage_end before stage)) rest
