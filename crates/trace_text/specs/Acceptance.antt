-- What it takes that a claim is accepted.
use Rattle.std.specs.Prelude.{◌≡◌, ℕ, List, length, sum_by, None, Some}
use Rattle.pair_colours.specs.Closure.{Coherent}
use Rattle.pair_colours.specs.Naming.{named_of}
use Rattle.trace_text.specs.declared.stage_list.Stage.{Stage}
use Rattle.trace_text.specs.declared.stage_list.Claim.{Claim}
use Rattle.trace_text.specs.Chains.{StageEnd, AreStages, chain_end}

-- the claim has a stage, each stage is one, the partition where the chain ends is coherent, and the claimed closure is its naming
pub record Accepts (claim : Claim) : Type 0 where
  pub last : StageEnd
  pub ends : chain_end claim.chain ≡ Some last
  pub stages : AreStages None claim.chain
  pub coherent : Coherent last.partition
  pub named : claim.closure ≡ named_of last.partition

-- how many steps the stages have
abbrev pub step_count : List Stage → ℕ
step_count stages = sum_by (λ stage. length stage.steps) stages
