use Rattle.std.proofs.Common.{IsTrue, sym, ◌∙◌}
use Rattle.std.proofs.lemmas.Bool.{both_ways}
use Rattle.visitors.specs.Masks.{is_member}
use Rattle.closed_subsets.specs.Closedness.{HasProductsOf}
use Rattle.closed_subsets.proofs.Tables.{before_more}
use Rattle.closed_subsets.proofs.closedness.has_products.Goals as goal
use Rattle.closed_subsets.proofs.closedness.has_products.Goals.{else-has_colour-via-then-has_colour+else-not-has_products_of, else-has_colour-via-else-has_colour}

pub loop-class-preserved : goal.loop-class-preserved
loop-class-preserved c =
    let K = c.args.k.now in
    let set = is_member c.args.mask in
    before_more (λ i. IsTrue (set i) → HasProductsOf K i set) c.loop-class.class c.loop-class.invariant
    (elim c.else-has_colour.branch [
      | else-has_colour-via-then-has_colour+else-not-has_products_of w ↦ λ _. w.has_products_of.ensures.0 w.if-not-has_products_of.false
      | else-has_colour-via-else-has_colour w ↦ λ t. absurd (both_ways _ (sym c.has_colour.ensures ∙ w.if-has_colour.false) t)
    ])
