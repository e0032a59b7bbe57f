-- The limits of traces.
use Rattle.std.specs.Prelude.{◌≡◌, ℕ}
use Rattle.trace_text.specs.declared.limits.TheConstants.{MOST_TRACE, MOST_STEP_NUMBER}

-- the limits are these
pub record AreLimits : Type 0 where
  pub bytes : MOST_TRACE ≡ 268435456
  pub step_number : MOST_STEP_NUMBER ≡ 65535

-- how many stages a chain may have so that its text is within the limit
abbrev pub most_stages : ℕ
most_stages = 257
