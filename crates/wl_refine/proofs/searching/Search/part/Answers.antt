use Rattle.wl_refine.proofs.Leading.{leads_on_after}
use Rattle.wl_refine.proofs.searching.Search.part.Goals as goal

pub returns : goal.returns
returns c =
    leads_on_after c.args.way.now c.guess.new.way c.compare.new.way c.in_ok-first.ensures
    (leads_on_after c.guess.new.way c.guess-2.new.way c.compare.new.way c.in_ok-second.ensures c.in_ok-third.ensures)
