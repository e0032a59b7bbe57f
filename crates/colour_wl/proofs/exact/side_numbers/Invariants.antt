use Rattle.std.proofs.Common.{◌≡◌, ◌++◌, take, replicate}
use Rattle.colour_wl.proofs.Expanded.{expanded}
use Rattle.colour_wl.proofs.exact.side_numbers.Given as goal

abbrev pub invariant-loop-j : goal.invariant-loop-j
invariant-loop-j l = l.codes.items ≡ expanded l.a (take l.i l.entries) ++ replicate l._j l.code

abbrev pub invariant-loop-i : goal.invariant-loop-i
invariant-loop-i l = l.codes.items ≡ expanded l.a (take l.i l.entries)
