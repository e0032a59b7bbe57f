use Rattle.std.proofs.Common.{◌≡◌, ◌+◌, sym, subst, ◌∙◌, arith}
use Rattle.pair_colours.specs.Naming.{rank_of}
use Rattle.visitors.specs.Masks.{HasBits}
use Rattle.visitors.proofs.MaskSets.{HasBits-yes, HasBits-no}
use Rattle.good_subsets.proofs.GoodMasks.{is_diagonal, is_diagonal-yes, is_diagonal-no, diagonal_made}
use Rattle.good_subsets.proofs.necessary.diagonal_mask.Goals as goal
use Rattle.good_subsets.proofs.necessary.diagonal_mask.Goals.{then-x-y, else-x-y}

pub loop-colour-preserved : goal.loop-colour-preserved
loop-colour-preserved c =
    let K = c.args.k.now in
    let n = c.loop-colour.colour in
    let m = c.loop-colour.mask in
    elim c.if-x-y.branch [
      | then-x-y w ↦ subst (λ x. HasBits (n + 1) x (is_diagonal K)) (sym (w.mask-is ∙ w.with_colour-mask.ensures)) (HasBits-yes n m (is_diagonal K) c.loop-colour.invariant (is_diagonal-yes K n c.pair-x.result c.pair-x.ensures.first w.if-x-y.true))
      | else-x-y w ↦ subst (λ x. HasBits (n + 1) x (is_diagonal K)) (sym w.mask-is) (HasBits-no n m (is_diagonal K) c.loop-colour.invariant (is_diagonal-no K n c.pair-x.result c.pair-x.ensures.first w.if-x-y.false))
    ]

pub returns : goal.returns
returns c =
    let K = c.args.k.now in
    let end : c.loop-colour.colour ≡ rank_of K = omega (arith, c.loop-colour-test.false, c.loop-colour.auto.colour-end, c.rank-colour-end.ensures.value) in
    diagonal_made K c.rank-colour-end.ensures.configuration c.loop-colour.mask (subst (λ n. HasBits n c.loop-colour.mask (is_diagonal K)) end c.loop-colour.invariant)
