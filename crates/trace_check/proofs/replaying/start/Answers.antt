use Rattle.std.proofs.Common.{sym, ◌∙◌}
use Rattle.trace_check.proofs.replaying.start.Goals as goal

pub start_cells-requires-in-Some : goal.start_cells-requires-in-Some
start_cells-requires-in-Some c =
    let b = rw c.in-Some.is at c.requires.before in
    (c.in_ok-refining-in-Some.ensures.0 c.if-not-refining.false).sizes ∙ sym b.refines.sizes
