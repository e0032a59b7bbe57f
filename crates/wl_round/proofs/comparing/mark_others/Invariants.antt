use Rattle.wl_round.specs.Comparing.{IsReady}
use Rattle.wl_round.specs.Sides.{colouring_of}
use Rattle.wl_round.proofs.CompareLemmas.{IsMarkedTo, IsFoundTo}
use Rattle.wl_round.proofs.comparing.mark_others.Given as goal

abbrev pub invariant-loop-a : goal.invariant-loop-a
invariant-loop-a l = record {
  ready : IsReady l.up l.want l.got;
  marked : IsMarkedTo (colouring_of l.tables) l.members l.a l.fn.marks l.marks;
  found : IsFoundTo (colouring_of l.tables) l.members l.a l.found;
}
