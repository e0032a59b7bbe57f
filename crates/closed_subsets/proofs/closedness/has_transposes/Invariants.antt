use Rattle.std.proofs.Common.{ℕ, ◌<◌, IsTrue}
use Rattle.pair_colours.specs.Colouring.{colour_at}
use Rattle.pair_colours.specs.IntersectionNumber.{pair_of_class}
use Rattle.visitors.specs.Masks.{is_member}
use Rattle.closed_subsets.proofs.closedness.has_transposes.Given as goal

abbrev pub invariant-loop-class : goal.invariant-loop-class
invariant-loop-class l = (c : ℕ) → c < l.class → IsTrue (is_member l.mask c) → IsTrue (is_member l.mask (colour_at l.k (pair_of_class l.k c).1 (pair_of_class l.k c).0))
