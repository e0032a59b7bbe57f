use Rattle.colour_wl.proofs.ColourRounds.{is_key, class_signature}
use Rattle.colour_wl.proofs.Numbered.{IsNumberedTo}
use Rattle.colour_wl.proofs.exact.exact_round.Given as goal

abbrev pub invariant-loop-class : goal.invariant-loop-class
invariant-loop-class l = IsNumberedTo is_key (class_signature l.k l.a) l.seen.keys l.next.items l.class
