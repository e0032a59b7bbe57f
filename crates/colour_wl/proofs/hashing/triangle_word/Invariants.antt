use Rattle.std.proofs.Common.{◌≡◌, ◌%◌, ◌^◌, take, sum_by}
use Rattle.colour_wl.specs.Words.{mix}
use Rattle.colour_wl.proofs.Expanded.{expanded}
use Rattle.colour_wl.proofs.hashing.triangle_word.Given as goal

abbrev pub invariant-loop-i : goal.invariant-loop-i
invariant-loop-i l = l.sum ≡ sum_by mix (expanded l.a (take l.i l.entries)) % 2 ^ 64
