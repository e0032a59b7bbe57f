use Rattle.colour_wl.proofs.Coarser.{one_fusion_of_coarser}
use Rattle.colour_wl.proofs.laws.coarser.Goals as goal

pub returns : goal.returns
returns c = one_fusion_of_coarser
