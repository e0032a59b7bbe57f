use Rattle.schur_rings.proofs.LawProofs.{growth_counts}
use Rattle.schur_rings.proofs.laws.basic_sets.Goals as goal

pub returns : goal.returns
returns c = growth_counts
