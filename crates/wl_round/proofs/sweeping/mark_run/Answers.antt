use Rattle.wl_round.proofs.Swept.{IsRunMarked-one, IsRunMarked-from}
use Rattle.wl_round.proofs.sweeping.mark_run.Goals as goal

pub returns-then-members-eq1-clause-marked : goal.returns-then-members-eq1-clause-marked
returns-then-members-eq1-clause-marked c = IsRunMarked-one c.args.sides.now c.args.members.now c.args.marks.now c.if-members-eq1.true

pub returns-clause-marked : goal.returns-clause-marked
returns-clause-marked c =
    let e = c.mark_unlike.ensures in
    IsRunMarked-from c.args.sides.now c.args.members.now c.args.marks.now c.mark_unlike.new.marks c.mark_unlike.result c.requires.some e.marked e.some e.none
