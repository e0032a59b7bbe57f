use Rattle.std.proofs.Common.{◌≡◌, ℕ, ◌<◌, true}
use Rattle.visitors.specs.Masks.{is_member}
use Rattle.mergings.proofs.heads.first_free.Given as goal

abbrev pub invariant-loop-colour : goal.invariant-loop-colour
invariant-loop-colour l = (c : ℕ) → c < l.colour → is_member l.covered c ≡ true
