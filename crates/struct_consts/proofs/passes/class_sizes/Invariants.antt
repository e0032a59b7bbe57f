use Rattle.struct_consts.proofs.PassLemmas.{HasSizesTo}
use Rattle.struct_consts.proofs.passes.class_sizes.Given as goal

abbrev pub invariant-loop-colour : goal.invariant-loop-colour
invariant-loop-colour l = HasSizesTo l.k l.rank l.colour-index l.sizes.items
