use Rattle.std.proofs.Common.{◌≡◌, ◌++◌, take}
use Rattle.neighbour_answers.specs.LatticeAnswer.{cover_lines}
use Rattle.neighbour_answers.proofs.lattice_texts.put_covers.Given as goal

abbrev pub invariant-loop-place : goal.invariant-loop-place
invariant-loop-place l = l.text ≡ l.fn.text ++ cover_lines (take l.place l.covers)
