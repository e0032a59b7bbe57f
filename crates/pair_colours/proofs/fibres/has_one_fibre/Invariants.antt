use Rattle.std.proofs.Common.{◌≡◌, ℕ, ◌<◌}
use Rattle.pair_colours.specs.Colouring.{colour_at}
use Rattle.pair_colours.proofs.fibres.has_one_fibre.Given as goal

abbrev pub invariant-loop-x : goal.invariant-loop-x
invariant-loop-x l = (z : ℕ) → z < l.x → colour_at l.colouring z z ≡ l.first
