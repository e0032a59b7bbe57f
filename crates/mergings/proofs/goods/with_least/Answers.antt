use Rattle.std.proofs.Common.{[], ◌∷◌, ◌++◌, take, slice_index, sym, subst, ◌∙◌, arith}
use Rattle.std.proofs.lemmas.Bool.{both_ways}
use Rattle.std.proofs.lemmas.List.{take_more, take_all}
use Rattle.mergings.specs.Leasts.{AreThoseWithLeast}
use Rattle.mergings.proofs.GoodLists.{least_none, least_yes, least_no}
use Rattle.mergings.proofs.goods.with_least.Goals as goal
use Rattle.mergings.proofs.goods.with_least.Goals.{then-is_least+in_ok-push, else-is_least}

pub loop-i-init : goal.loop-i-init
loop-i-init c = subst (AreThoseWithLeast [] c.args.colour) (sym c.new-those.ensures.items) (least_none c.args.colour)

pub loop-i-preserved : goal.loop-i-preserved
loop-i-preserved c =
    let masks = c.args.masks.now in
    let colour = c.args.colour in
    let i = c.loop-i.i in
    let those = c.loop-i.those.items in
    let more = take_more masks i 0 c.loop-i-test.true in
    subst (λ m. AreThoseWithLeast m colour c.if-is_least.those.items) (sym more)
    (elim c.if-is_least.branch [
      | then-is_least+in_ok-push w ↦ subst (AreThoseWithLeast (take i masks ++ slice_index masks i ∷ []) colour) (sym ((λ k. (w.those-is k).items) ∙ w.in_ok-push.ensures.items))
          (least_yes (take i masks) those colour (slice_index masks i) c.loop-i.invariant (c.is_least.ensures.0 w.if-is_least.true))
      | else-is_least w ↦ subst (AreThoseWithLeast (take i masks ++ slice_index masks i ∷ []) colour) (sym (λ k. (w.those-is k).items))
          (least_no (take i masks) those colour (slice_index masks i) c.loop-i.invariant (λ l. both_ways _ w.if-is_least.false (c.is_least.ensures.1 l)))
    ])

pub returns : goal.returns
returns c = subst (λ m. AreThoseWithLeast m c.args.colour c.loop-i.those.items) (take_all c.loop-i.i c.args.masks.now (omega (arith, c.loop-i-test.false))) c.loop-i.invariant
