use Rattle.good_subsets.proofs.GoodMasks.{turned_whole}
use Rattle.std.proofs.lemmas.Bool.{eq-eqb}
use Rattle.good_subsets.proofs.necessary.is_turned_whole.Goals as goal

pub returns : goal.returns
returns c = λ g. eq-eqb _ _ (turned_whole c.args.k.now c.rank-rank.ensures.configuration c.args.mask c.requires.low g c.transposes_of-turned.result c.transposes_of-turned.ensures c.if-turned-mask-eq0.false)
