-- The limits of scripts, as numbers.
use Rattle.std.specs.Prelude.{◌≡◌}
use Rattle.script_text.specs.declared.limits.TheConstants.{MOST_SCRIPT, MOST_LINES, MOST_MERGINGS, MOST_PRODUCTS}

pub record AreLimits : Type 0 where
  pub bytes : MOST_SCRIPT ≡ 1048576
  pub lines : MOST_LINES ≡ 10000
  pub mergings : MOST_MERGINGS ≡ 10000
  pub products : MOST_PRODUCTS ≡ 64
