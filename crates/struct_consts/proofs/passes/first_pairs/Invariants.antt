use Rattle.std.proofs.Common.{take}
use Rattle.pair_colours.specs.Naming.{walk}
use Rattle.struct_consts.proofs.PassLemmas.{HasFirstOn}
use Rattle.struct_consts.proofs.passes.first_pairs.Given as goal

abbrev pub invariant-loop-place : goal.invariant-loop-place
invariant-loop-place l = HasFirstOn l.k l.rank (take l.place (walk l.k.size)) l.pairs.items
