use Rattle.std.proofs.Common.{◌≡◌, ℕ, ◌<◌, IsTrue}
use Rattle.pair_colours.specs.IntersectionNumber.{pair_of_class}
use Rattle.visitors.specs.Masks.{is_member}
use Rattle.closed_subsets.proofs.closedness.has_diagonals.Given as goal

abbrev pub invariant-loop-class : goal.invariant-loop-class
invariant-loop-class l = (c : ℕ) → c < l.class → (pair_of_class l.k c).0 ≡ (pair_of_class l.k c).1 → IsTrue (is_member l.mask c)
