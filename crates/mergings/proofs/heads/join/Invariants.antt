use Rattle.mergings.proofs.Joinings.{IsJoining}
use Rattle.mergings.proofs.heads.join.Given as goal

abbrev pub invariant-loop-colour : goal.invariant-loop-colour
invariant-loop-colour l = IsJoining l.set l.head l.colour l.fn.heads l.heads
