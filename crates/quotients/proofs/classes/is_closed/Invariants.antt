use Rattle.std.proofs.Common.{ℕ, ◌<◌}
use Rattle.pair_colours.specs.ColourSets.{is_in}
use Rattle.quotients.proofs.Leasts.{TellsRow}
use Rattle.quotients.proofs.classes.is_closed.Given as goal

abbrev pub invariant-loop-x : goal.invariant-loop-x
invariant-loop-x l = (z : ℕ) → z < l.x → TellsRow l.k (is_in l.members) l.leasts z
