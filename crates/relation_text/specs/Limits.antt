-- The limit of relation texts, as a number.
use Rattle.std.specs.Prelude.{◌≡◌}
use Rattle.relation_text.specs.declared.reading.TheConstants.{MOST_RELATION}

pub record AreLimits : Type 0 where
  pub bytes : MOST_RELATION ≡ 4194304
