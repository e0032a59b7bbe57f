use Rattle.recolour_bench.proofs.LawProofs.{fix_takes_least}
use Rattle.recolour_bench.proofs.laws.fix.Goals as goal

pub returns : goal.returns
returns c = fix_takes_least
