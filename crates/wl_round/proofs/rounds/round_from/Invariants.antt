use Rattle.pair_colours.proofs.Measure.{alike_places}
use Rattle.wl_round.specs.Coming.{IsComing}
use Rattle.wl_round.proofs.rounds.round_from.Given as goal

abbrev pub invariant-loop-round : goal.invariant-loop-round
invariant-loop-round l = IsComing l.colouring l.round

abbrev pub decreases-loop-round : goal.decreases-loop-round
decreases-loop-round l = alike_places l.round
