use Rattle.drg_arrays.proofs.LawProofs.{distances_exist}
use Rattle.drg_arrays.proofs.laws.some_distances.Goals as goal

pub returns : goal.returns
returns c = distances_exist
