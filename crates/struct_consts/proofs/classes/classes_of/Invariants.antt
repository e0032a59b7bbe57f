use Rattle.struct_consts.proofs.KeptLemmas.{HasData}
use Rattle.struct_consts.proofs.classes.classes_of.Given as goal

abbrev pub invariant-loop-colour : goal.invariant-loop-colour
invariant-loop-colour l = HasData l.k l.colour l.classes.items
