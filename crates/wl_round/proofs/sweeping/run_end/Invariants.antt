use Rattle.std.proofs.Common.{◌≡◌, ℕ, ◌<◌, ◌≤◌}
use Rattle.wl_round.specs.Sweeps.{number_by}
use Rattle.wl_round.proofs.sweeping.run_end.Given as goal

abbrev pub invariant-loop-end : goal.invariant-loop-end
invariant-loop-end l = (a : ℕ) → l.start ≤ a → a < l.end → number_by l.numbers l.places a ≡ number_by l.numbers l.places l.start
