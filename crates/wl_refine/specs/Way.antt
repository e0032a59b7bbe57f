-- Steps on the way to a closure.
use Rattle.std.specs.Prelude.{◌≡◌, List, ◌++◌}
use Rattle.pair_colours.specs.Colouring.{PairColouring}
use Rattle.trace_text.specs.declared.step_list.Step.{Step}
use Rattle.trace_text.specs.Split.{Lead}

-- the steps made so far, and the partition that they made
pub record Walked : Type 0 where
  pub steps : List Step
  pub cells : PairColouring

-- some more steps lead on from there
pub record LeadsOn (old new : Walked) : Type 0 where
  pub more : List Step
  pub steps : new.steps ≡ old.steps ++ more
  pub leads : Lead more old.cells new.cells
