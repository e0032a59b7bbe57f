use Rattle.std.proofs.Common.{ℕ, ◌<◌, IsTrue}
use Rattle.visitors.specs.Masks.{is_member}
use Rattle.closed_subsets.specs.Closedness.{HasProductsOf}
use Rattle.closed_subsets.proofs.closedness.has_products.Given as goal

abbrev pub invariant-loop-class : goal.invariant-loop-class
invariant-loop-class l = (c : ℕ) → c < l.class → IsTrue (is_member l.mask c) → HasProductsOf l.k c (is_member l.mask)
