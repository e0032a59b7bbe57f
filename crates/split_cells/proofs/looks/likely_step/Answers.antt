use Rattle.std.proofs.Common.{[]}
use Rattle.split_cells.proofs.KeyLemmas.{some_member}
use Rattle.split_cells.proofs.looks.likely_step.Goals as goal

pub drawn-requires : goal.drawn-requires
drawn-requires c = some_member c.members-members.ensures.members [] (c.requires.used c.args.k c.requires.class)
