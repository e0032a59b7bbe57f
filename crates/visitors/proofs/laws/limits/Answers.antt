use Rattle.std.proofs.Common.{refl}
use Rattle.visitors.proofs.laws.limits.Goals as goal

pub returns : goal.returns
returns c = record { set_rank = refl }
