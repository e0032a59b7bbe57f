use Rattle.wl_refine.proofs.RoundedStages.{AreRoundedTo}
use Rattle.wl_refine.proofs.round_chains.rounds.Given as goal

abbrev pub invariant-loop-stage : goal.invariant-loop-stage
invariant-loop-stage l = AreRoundedTo l.stages l.stage-index l.chain l.last
