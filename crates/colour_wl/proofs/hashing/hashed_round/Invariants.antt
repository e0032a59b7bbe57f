use Rattle.std.proofs.Common.{nat_eq}
use Rattle.colour_wl.proofs.Hashes.{class_key}
use Rattle.colour_wl.proofs.Numbered.{IsNumberedTo}
use Rattle.colour_wl.proofs.hashing.hashed_round.Given as goal

abbrev pub invariant-loop-class : goal.invariant-loop-class
invariant-loop-class l = IsNumberedTo nat_eq (class_key l.k l.a) l.seen.keys l.next.items l.class
