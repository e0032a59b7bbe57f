use Rattle.std.proofs.Common.{ℕ, ◌<◌}
use Rattle.mergings.specs.Searches.{IsSoundAt}
use Rattle.mergings.proofs.heads.are_sound.Given as goal

abbrev pub invariant-loop-colour : goal.invariant-loop-colour
invariant-loop-colour l = (c : ℕ) → c < l.colour → IsSoundAt l.k l.heads c
