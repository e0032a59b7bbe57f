use Rattle.std.proofs.Common.{◌≡◌, ◌+◌, ◌^◌, sym, ap, subst, ◌∙◌, arith, map}
use Rattle.std.proofs.lemmas.Bool.{both_ways}
use Rattle.pair_colours.specs.Colouring.{points}
use Rattle.pair_colours.specs.ClosedSet.{IsClosedSet}
use Rattle.pair_colours.specs.ColourSets.{is_in}
use Rattle.pair_colours.specs.Naming.{rank_of}
use Rattle.pair_colours.specs.Those.{AreThose}
use Rattle.visitors.specs.Masks.{members_of}
use Rattle.closed_subsets.proofs.Masked.{masks_push_yes, masks_push_no, masks_all}
use Rattle.closed_subsets.proofs.listing.closed_masks.Goals as goal
use Rattle.closed_subsets.proofs.listing.closed_masks.Goals.{then-is_closed+in_ok-push, else-is_closed}

pub loop-mask-preserved : goal.loop-mask-preserved
loop-mask-preserved c =
    let K = c.args.k.now in
    let m = c.loop-mask.mask in
    let masks = c.loop-mask.masks.items in
    let f = members_of (rank_of K) in
    elim c.if-is_closed.branch [
      | then-is_closed+in_ok-push w ↦ subst (λ xs. AreThose (λ set. IsClosedSet K (is_in set)) (map f (points (m + 1))) (map f xs)) (sym ((λ i. (w.masks-is i).items) ∙ w.in_ok-push.ensures.items))
          (masks_push_yes (λ set. IsClosedSet K (is_in set)) f m masks c.loop-mask.invariant (c.is_closed.ensures.0 w.if-is_closed.true))
      | else-is_closed w ↦ subst (λ xs. AreThose (λ set. IsClosedSet K (is_in set)) (map f (points (m + 1))) (map f xs)) (sym (λ i. (w.masks-is i).items))
          (masks_push_no (λ set. IsClosedSet K (is_in set)) f m masks c.loop-mask.invariant (λ s. both_ways _ w.if-is_closed.false (c.is_closed.ensures.1 s)))
    ]

pub returns : goal.returns
returns c =
    let K = c.args.k.now in
    let f = members_of (rank_of K) in
    let end : c.loop-mask.mask ≡ 2 ^ rank_of K = omega (arith, c.loop-mask-test.false, c.loop-mask.auto.mask-end, c.power-end.ensures, ap (λ n. 2 ^ n) c.rank.ensures.value) in
    masks_all K c.rank.ensures.configuration c.requires c.loop-mask.masks.items (subst (λ n. AreThose (λ set. IsClosedSet K (is_in set)) (map f (points n)) (map f c.loop-mask.masks.items)) end c.loop-mask.invariant)
