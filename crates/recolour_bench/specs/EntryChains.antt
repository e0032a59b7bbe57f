-- The chain of stages that stands behind an entry of a history.
use Rattle.std.specs.Prelude.{◌≡◌, List, [], ◌∷◌, ◌++◌}
use Rattle.std.specs.List.{AllByRecursion}
use Rattle.pair_colours.specs.Colouring.{PairColouring}
use Rattle.pair_colours.specs.Closure.{IsClosureOf}
use Rattle.trace_text.specs.declared.stage_list.Stage.{Stage}
use Rattle.trace_text.specs.declared.stage_list.Claim.{Claim}
use Rattle.trace_text.specs.Versions.{HasStep}
use Rattle.trace_text.specs.Acceptance.{Accepts}

-- the claim of version 1 that K is the closure, by this chain
abbrev pub claim_by : List Stage → PairColouring → Claim
claim_by chain K = record { version = 1; chain = chain; closure = K }

-- the claim of version 2
abbrev pub round_claim_by : List Stage → PairColouring → Claim
round_claim_by rounds K = record { version = 2; chain = rounds; closure = K }

-- the chain is the stages before and one stage more, of the colours C and with steps on one class, and the closure of C is accepted by it
pub record IsChainOf (C : PairColouring) (before chain : List Stage) : Type 0 where
  pub stage : Stage
  pub colours : stage.colours ≡ C
  pub stages : chain ≡ before ++ stage ∷ []
  pub one_class : AllByRecursion (HasStep 1) stage.steps
  pub accepted : (K : PairColouring) → IsClosureOf K C → Accepts (claim_by chain K)
