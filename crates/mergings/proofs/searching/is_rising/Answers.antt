use Rattle.std.proofs.Common.{◌≡◌, ◌+◌, ◌-◌, ◌<◌, ◌≤◌, [], map, get_or, vec_items, sym, ap, subst, ◌∙◌, arith, ⊎_elim}
use Rattle.std.proofs.lemmas.Bool.{cases_lt}
use Rattle.std.proofs.lemmas.List.{get_or-map}
use Rattle.colour_wl.specs.GrowthStrings.{IsBefore}
use Rattle.mergings.proofs.searching.is_rising.Goals as goal

pub loop-i-preserved : goal.loop-i-preserved
loop-i-preserved c = λ k l.
    let L = c.args.list.now in
    let i = c.loop-i.i in
    let one = c.index-list-i.result in
    let two = c.index-list-i-in-loop-i.result in
    ⊎_elim
    (λ (m : k + 1 < i). c.loop-i.invariant k m)
    (λ (m : i ≤ k + 1).
    let at : k ≡ i - 1 = omega (arith, m, l) in
    let next : k + 1 ≡ i = omega (arith, m, l, c.loop-i.auto.i) in
    let left : get_or (map vec_items L) k [] ≡ c.deref.result.now = get_or-map vec_items L k one [] (omega (arith, next, c.loop-i-test.true)) ∙ ap vec_items (ap (λ j. get_or L j one) at ∙ sym c.index-list-i.is) ∙ sym c.deref.ensures.value in
    let right : get_or (map vec_items L) (k + 1) [] ≡ c.deref-in-loop-i.result.now = get_or-map vec_items L (k + 1) two [] (omega (arith, next, c.loop-i-test.true)) ∙ ap vec_items (ap (λ j. get_or L j two) next ∙ sym c.index-list-i-in-loop-i.is) ∙ sym c.deref-in-loop-i.ensures.value in
    subst (λ s. IsBefore s (get_or (map vec_items L) (k + 1) [])) (sym left) (subst (IsBefore c.deref.result.now) (sym right) (c.is_before.ensures c.if-not-is_before.false)))
    (cases_lt (k + 1) i)
