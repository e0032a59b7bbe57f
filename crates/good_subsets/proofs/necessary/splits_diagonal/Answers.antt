use Rattle.good_subsets.proofs.GoodMasks.{diagonal_whole}
use Rattle.std.proofs.lemmas.Bool.{eq-eqb}
use Rattle.good_subsets.proofs.necessary.splits_diagonal.Goals as goal

pub returns : goal.returns
returns c = λ g. eq-eqb _ _ (diagonal_whole c.args.k.now c.rank-rank.ensures.configuration c.args.mask c.requires.low g c.args.diagonal c.requires.diagonal c.if-own-eq0.false)
