-- The limits of what is read.
use Rattle.std.specs.Prelude.{◌≡◌}
use Rattle.pair_colours.specs.declared.coloured_pairs.TheConstants.{MOST_POINTS, MOST_COLOUR}

-- 256 points, and raw colours up to 1048575
pub record AreLimits : Type 0 where
  pub points : MOST_POINTS ≡ 256
  pub colour : MOST_COLOUR ≡ 1048575
