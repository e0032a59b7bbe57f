use Rattle.split_cells.proofs.KeyLemmas.{IsLeastTo}
use Rattle.split_cells.proofs.splitting.least_key.Given as goal

abbrev pub invariant-loop-p : goal.invariant-loop-p
invariant-loop-p l = IsLeastTo l.members l.tally.counts l.p-index l.least
