-- The limits of what is met.
use Rattle.std.specs.Prelude.{◌≡◌}
use Rattle.visitors.specs.declared.visitor.TheConstants.{MOST_SET_RANK}

-- entries of 16 numbers at most, each below 16
pub record AreLimits : Type 0 where
  pub set_rank : MOST_SET_RANK ≡ 16
