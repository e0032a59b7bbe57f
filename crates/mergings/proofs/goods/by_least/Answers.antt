use Rattle.std.proofs.Common.{◌≡◌, ◌+◌, [], ◌∷◌, map, vec_items, sym, ap, subst, ◌∙◌, arith}
use Rattle.std.proofs.lemmas.List.{map-append}
use Rattle.pair_colours.specs.Naming.{rank_of}
use Rattle.mergings.specs.Leasts.{AreByLeastBefore}
use Rattle.mergings.proofs.GoodLists.{by_least_none, by_least_more, by_least_all}
use Rattle.mergings.proofs.goods.by_least.Goals as goal

pub loop-colour-init : goal.loop-colour-init
loop-colour-init c = subst (AreByLeastBefore c.args.masks.now 0) (ap (map vec_items) (sym c.new-goods.ensures.items)) (by_least_none c.args.masks.now)

pub loop-colour-preserved : goal.loop-colour-preserved
loop-colour-preserved c =
    subst (AreByLeastBefore c.args.masks.now (c.loop-colour.colour + 1)) (sym (ap (map vec_items) c.in_ok-push.ensures.items ∙ map-append vec_items c.loop-colour.goods.items (c.in_ok-with_least.field-0 ∷ [])))
    (by_least_more c.args.masks.now c.loop-colour.colour (map vec_items c.loop-colour.goods.items) c.in_ok-with_least.field-0.items c.loop-colour.invariant c.in_ok-with_least.ensures)

pub returns : goal.returns
returns c =
    let end : c.loop-colour.colour ≡ rank_of c.args.k.now = omega (arith, c.loop-colour-test.false, c.loop-colour.auto.colour-end, c.rank-colour-end.ensures.value) in
    by_least_all c.args.k.now c.args.masks.now (map vec_items c.loop-colour.goods.items) c.requires.masks
    (subst (λ n. AreByLeastBefore c.args.masks.now n (map vec_items c.loop-colour.goods.items)) end c.loop-colour.invariant)
