use Rattle.std.proofs.Common.{ℕ, ◌-◌, ◌<◌, ◌≤◌}
use Rattle.mergings.specs.Searches.{IsHead, IsConstantFrom}
use Rattle.mergings.proofs.products.are_constant.Given as goal

abbrev pub invariant-loop-step : goal.invariant-loop-step
invariant-loop-step l = (x : ℕ) → l.rank - l.step ≤ x → x < l.rank → IsHead l.heads l.covered x → IsConstantFrom l.k l.heads l.covered x
