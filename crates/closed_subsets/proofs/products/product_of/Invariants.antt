use Rattle.visitors.specs.Masks.{HasBits}
use Rattle.closed_subsets.specs.Products.{is_product}
use Rattle.closed_subsets.proofs.products.product_of.Given as goal

abbrev pub invariant-loop-class : goal.invariant-loop-class
invariant-loop-class l = HasBits l.class l.mask (is_product l.k l.i l.j)
