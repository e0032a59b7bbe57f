-- Which claim a text is. (The format is this project's own.)
use Rattle.std.specs.Prelude.{◌≡◌, ◌≤◌, ℕ, List, length, map}
use Rattle.std.specs.List.{AllByRecursion}
use Rattle.text_lines.specs.Lines.{lines_of}
use Rattle.pair_colours.specs.Colouring.{IsRawColouring}
use Rattle.trace_text.specs.declared.limits.TheConstants.{MOST_STEP_NUMBER}
use Rattle.trace_text.specs.declared.step_list.Step.{Step}
use Rattle.trace_text.specs.declared.stage_list.Stage.{Stage}
use Rattle.trace_text.specs.declared.stage_list.Claim.{Claim}
use Rattle.trace_text.specs.Split.{numbers_of}
use Rattle.trace_text.specs.Versions.{IsVersion, HasStep}
use Rattle.trace_text.specs.TraceText.{trace_lines}

-- a step of a version whose numbers are within the limit
pub record IsTraceStep (version : ℕ) (s : Step) : Type 0 where
  pub known : HasStep version s
  pub numbers : AllByRecursion (λ number. number ≤ MOST_STEP_NUMBER) (numbers_of s)

-- a stage of n points with steps of a version, whose numbers are within the limits
pub record IsTraceStage (version n : ℕ) (stage : Stage) : Type 0 where
  pub points : stage.colours.size ≡ n
  pub colours : IsRawColouring stage.colours
  pub steps : AllByRecursion (IsTraceStep version) stage.steps

-- the claim has a version, a stage, one number of points, and numbers within the limits
pub record FitsTrace (claim : Claim) : Type 0 where
  pub version : IsVersion claim.version
  pub has_stage : 1 ≤ length claim.chain
  pub stages : AllByRecursion (IsTraceStage claim.version claim.closure.size) claim.chain
  pub closure : IsRawColouring claim.closure

-- the lines are those of the claim, which is within the limits
pub record AreTraceLines (lines : List (List ℕ)) (claim : Claim) : Type 0 where
  pub are : lines ≡ trace_lines claim
  pub fits : FitsTrace claim

-- the text is that of the claim
pub record IsTraceText (text : List ℕ) (claim : Claim) : Type 0 where
  pub lines : AreTraceLines (map (λ part. part.bytes) (lines_of text)) claim
