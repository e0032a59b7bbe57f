use Rattle.std.proofs.Common.{◌≡◌, ℕ, ◌<◌, get_or}
use Rattle.pair_colours.specs.IntersectionNumber.{intersection_number}
use Rattle.struct_consts.specs.Entry.{Entry}
use Rattle.scheme_tests.proofs.properties.commutes_at.Given as goal

abbrev pub invariant-loop-entry : goal.invariant-loop-entry
invariant-loop-entry l = (a : ℕ) (d : Entry) → a < l.entry-index
    → intersection_number l.k (get_or l.entry-items a d).right (get_or l.entry-items a d).left l.class ≡ (get_or l.entry-items a d).count
