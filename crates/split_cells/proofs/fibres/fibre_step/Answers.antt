use Rattle.std.proofs.Common.{[]}
use Rattle.split_cells.proofs.KeyLemmas.{some_member}
use Rattle.split_cells.proofs.fibres.fibre_step.Goals as goal

pub bounds-members-0 : goal.bounds-members-0
bounds-members-0 c = some_member c.members-members.ensures.members [] (c.requires.used c.args.k c.requires.class)
