-- The numbers of this crate's limits.
use Rattle.std.specs.Prelude.{◌≡◌}
use Rattle.cohere_inputs.specs.declared.words.TheConstants.{MOST_LINE}

-- the greatest line of a file that can be asked for
pub record AreLimits : Type 0 where
  pub line : MOST_LINE ≡ 1000000
