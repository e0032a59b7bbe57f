use Rattle.std.proofs.Common.{ℕ, ◌<◌, IsTrue}
use Rattle.pair_colours.specs.Naming.{rank_of}
use Rattle.pair_colours.specs.IntersectionNumber.{intersection_number}
use Rattle.visitors.specs.Masks.{is_member}
use Rattle.closed_subsets.proofs.closedness.has_products_of.Given as goal

abbrev pub invariant-loop-class : goal.invariant-loop-class
invariant-loop-class l = (j n : ℕ) → j < l.class → n < rank_of l.k → IsTrue (is_member l.mask j) → 0 < intersection_number l.k l.i j n → IsTrue (is_member l.mask n)
