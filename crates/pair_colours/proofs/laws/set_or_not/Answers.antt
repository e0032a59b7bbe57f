use Rattle.pair_colours.proofs.LawProofs.{colour_set_or_not, edge_set_or_not}
use Rattle.pair_colours.proofs.laws.set_or_not.Goals as goal

pub returns-clause-colours : goal.returns-clause-colours
returns-clause-colours c = colour_set_or_not

pub returns-clause-edges : goal.returns-clause-edges
returns-clause-edges c = edge_set_or_not
