-- The verdict on a claim.
use Rattle.std.specs.Prelude.{◌≡◌, ℕ}
use Rattle.pair_colours.specs.Naming.{rank_of}
use Rattle.trace_text.specs.declared.stage_list.Claim.{Claim}
use Rattle.trace_text.specs.Acceptance.{Accepts, step_count}
use Rattle.trace_text.specs.BadLines.{IsFirstBadLine}
use Rattle.trace_check.specs.declared.verdicts.Verdict.{Verdict}
use Rattle.trace_check.specs.declared.verdicts.Verdict.TheVariants.{Accepted, Refused}

-- the claim is accepted: its closure has so many points and this rank, and its stages have so many steps
pub record IsAccepted (claim : Claim) (points rank steps : ℕ) : Type 0 where
  pub accepts : Accepts claim
  pub size : points ≡ claim.closure.size
  pub classes : rank ≡ rank_of claim.closure
  pub counted : steps ≡ step_count claim.chain

-- the answer is right: the claim is accepted, or this is its first bad line with its first word
abbrev pub IsVerdict : Claim → Verdict → Type 0
IsVerdict claim (Accepted points rank steps) = IsAccepted claim points rank steps
IsVerdict claim (Refused line what) = IsFirstBadLine claim line what
