use Rattle.std.proofs.Common.{◌≡◌, ◌+◌, ◌^◌, ◌<◌, sym, ap, subst, ◌∙◌, arith}
use Rattle.std.proofs.lemmas.Bool.{both_ways}
use Rattle.pair_colours.specs.Naming.{rank_of}
use Rattle.good_subsets.proofs.GoodMasks.{AreGoodBefore, masks_push_yes, masks_push_no, masks_all}
use Rattle.good_subsets.proofs.listing.good_masks.Goals as goal
use Rattle.good_subsets.proofs.listing.good_masks.Goals.{then-branch+in_ok-push, else-branch}

pub loop-mask-preserved : goal.loop-mask-preserved
loop-mask-preserved c =
    let K = c.args.k.now in
    let m = c.loop-mask.mask in
    let masks = c.loop-mask.masks in
    let low : m < 2 ^ rank_of K = omega (arith, c.loop-mask-test.true, c.power-end.ensures, ap (λ n. 2 ^ n) c.rank.ensures.value) in
    elim c.if-branch.branch [
      | then-branch+in_ok-push w ↦ subst (AreGoodBefore K (m + 1)) (sym (w.masks-is ∙ w.in_ok-push.ensures.ok)) (masks_push_yes K m masks c.loop-mask.invariant low (c.in_ok-is_good_mask.ensures.0 w.if-branch.true))
      | else-branch w ↦ subst (AreGoodBefore K (m + 1)) (sym w.masks-is) (masks_push_no K m masks c.loop-mask.invariant (λ g. both_ways _ w.if-branch.false (c.in_ok-is_good_mask.ensures.1 g)))
    ]

pub returns : goal.returns
returns c =
    let K = c.args.k.now in
    let end : c.loop-mask.mask ≡ 2 ^ rank_of K = omega (arith, c.loop-mask-test.false, c.loop-mask.auto.mask-end, c.power-end.ensures, ap (λ n. 2 ^ n) c.rank.ensures.value) in
    masks_all K c.requires c.loop-mask.masks (subst (λ n. AreGoodBefore K n c.loop-mask.masks) end c.loop-mask.invariant)
