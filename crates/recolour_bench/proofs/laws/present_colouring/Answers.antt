use Rattle.recolour_bench.proofs.LawProofs.{present_is_raw, present_is_unique}
use Rattle.recolour_bench.proofs.laws.present_colouring.Goals as goal

pub returns-clause-raw : goal.returns-clause-raw
returns-clause-raw c = present_is_raw

pub returns-clause-unique : goal.returns-clause-unique
returns-clause-unique c = present_is_unique
