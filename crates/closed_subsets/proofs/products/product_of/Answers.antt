use Rattle.std.proofs.Common.{◌≡◌, ◌+◌, nat_lt, sym, ap, subst, ◌∙◌, arith}
use Rattle.std.proofs.lemmas.Bool.{lt-ltb}
use Rattle.pair_colours.specs.IntersectionNumber.{intersection_number}
use Rattle.visitors.specs.Masks.{HasBits}
use Rattle.visitors.proofs.MaskSets.{HasBits-yes, HasBits-no}
use Rattle.closed_subsets.specs.Products.{is_product}
use Rattle.closed_subsets.proofs.products.product_of.Goals as goal
use Rattle.closed_subsets.proofs.products.product_of.Goals.{then-value-gt0, else-value-gt0}

pub loop-class-preserved : goal.loop-class-preserved
loop-class-preserved c =
    let n = c.loop-class.class in
    let m = c.loop-class.mask in
    let p = is_product c.args.k.now c.args.i c.args.j in
    elim c.if-value-gt0.branch [
      | then-value-gt0 w ↦ subst (λ x. HasBits (n + 1) x p) (sym (w.mask-is ∙ w.with_colour-mask.ensures)) (HasBits-yes n m p c.loop-class.invariant (lt-ltb 0 (intersection_number c.args.k.now c.args.i c.args.j n) (omega (arith, c.value.ensures.number, w.if-value-gt0.true))))
      | else-value-gt0 w ↦ subst (λ x. HasBits (n + 1) x p) (sym w.mask-is) (HasBits-no n m p c.loop-class.invariant (let z : intersection_number c.args.k.now c.args.i c.args.j n ≡ 0 = omega (arith, c.value.ensures.number, w.if-value-gt0.false) in ap (nat_lt 0) z))
    ]
