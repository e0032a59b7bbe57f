use Rattle.std.proofs.Common.{◌≡◌, ℕ, ◌<◌, false}
use Rattle.visitors.specs.Masks.{is_member}
use Rattle.mergings.proofs.heads.least_of.Given as goal

abbrev pub invariant-loop-colour : goal.invariant-loop-colour
invariant-loop-colour l = (c : ℕ) → c < l.colour → is_member l.set c ≡ false
