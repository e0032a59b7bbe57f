-- Chains whose steps are rounds of refinement.
use Rattle.std.specs.Prelude.{◌≡◌, List, [], ◌∷◌, Option, None, Some, ⊤}
use Rattle.pair_colours.specs.Colouring.{PairColouring}
use Rattle.trace_text.specs.declared.step_list.Step.{Step}
use Rattle.trace_text.specs.declared.step_list.Step.TheVariants.{Round}
use Rattle.trace_text.specs.declared.stage_list.Stage.{Stage}
use Rattle.trace_text.specs.Split.{HasParts, split_of}
use Rattle.trace_text.specs.Chains.{StageEnd, Follows, partition_before, stage_start, stage_end}

-- the steps from P on are the step `R`, as often as it is not idle, and no other
abbrev pub AreRounds : List Step → PairColouring → Type 0
AreRounds [] P = ¬ HasParts P Round
AreRounds (s ∷ steps) P = (s ≡ Round) × HasParts P Round × AreRounds steps (split_of P Round)

-- after a stage that ended so, the stages in the second list have the colours of those in the first, and rounds as steps
abbrev pub AreRoundStages : Option StageEnd → List Stage → List Stage → Type 0
AreRoundStages before [] [] = ⊤
AreRoundStages before (stage ∷ rest) (round ∷ rounds) =
    (round.colours ≡ stage.colours) × AreRounds round.steps (stage_start (partition_before before) round.colours) × AreRoundStages (Some (stage_end before round)) rest rounds
AreRoundStages before [] (round ∷ rounds) = ⊥
AreRoundStages before (stage ∷ rest) [] = ⊥

-- the chain with the same colourings, in which each stage has the step `R` as often as it is not idle, and no other step
abbrev pub IsRoundChain : List Stage → List Stage → Type 0
IsRoundChain chain rounds = AreRoundStages None chain rounds

-- the colours of each stage refine those of the stage before it, where there is one
abbrev pub AreFollowing : Option StageEnd → List Stage → Type 0
AreFollowing before [] = ⊤
AreFollowing before (stage ∷ rest) = Follows before stage.colours × AreFollowing (Some (stage_end before stage)) rest
