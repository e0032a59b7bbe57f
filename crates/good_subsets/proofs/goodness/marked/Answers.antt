use Rattle.std.proofs.Common.{◌≡◌, ◌-◌, ◌++◌, ◌∷◌, [], cond, not, map, sym, ap, ◌∙◌, arith}
use Rattle.std.specs.Int.{from_bool}
use Rattle.std.proofs.lemmas.List.FromFn.{map-range_with_len_more}
use Rattle.pair_colours.specs.Colouring.{points}
use Rattle.good_subsets.proofs.GoodTest.{mark, IsMarked-made}
use Rattle.good_subsets.proofs.goodness.marked.Goals as goal
use Rattle.good_subsets.proofs.goodness.marked.Goals.{then-contains, else-contains}

pub loop-colour-preserved : goal.loop-colour-preserved
loop-colour-preserved c =
    let set = c.args.set.now in
    let inside = c.from-inside.result in
    let colour = c.loop-colour.colour-counter in
    let here : c.if-contains.mark ≡ mark set inside colour =
    elim c.if-contains.branch [
      | then-contains w ↦ w.mark-is ∙ ap (λ t. cond t inside (1 - inside)) (sym (sym c.contains-in-loop-colour.ensures.value ∙ w.if-contains.true))
      | else-contains w ↦ w.mark-is ∙ ap (λ t. cond t inside (1 - inside)) (sym (sym c.contains-in-loop-colour.ensures.value ∙ w.if-contains.false))
    ] in
    c.in_ok-push.ensures.items ∙ (λ i. c.loop-colour.invariant i ++ here i ∷ []) ∙ sym (map-range_with_len_more (mark set inside) 0 colour colour (omega arith))

pub returns-clause-growth : goal.returns-clause-growth
returns-clause-growth c =
    let end : c.loop-colour.colour-counter ≡ c.args.rank = omega (arith, c.loop-colour-test.false, c.loop-colour.auto.colour-counter-end) in
    (IsMarked-made c.args.rank c.from-inside.result c.args.set.now c.loop-colour.string.items (c.loop-colour.invariant ∙ ap (λ n. map (mark c.args.set.now c.from-inside.result) (points n)) end)
    (c.from-inside.ensures ∙ ap (λ t. from_bool (not t)) c.contains.ensures.value)).0

pub returns-clause-marks : goal.returns-clause-marks
returns-clause-marks c =
    let end : c.loop-colour.colour-counter ≡ c.args.rank = omega (arith, c.loop-colour-test.false, c.loop-colour.auto.colour-counter-end) in
    (IsMarked-made c.args.rank c.from-inside.result c.args.set.now c.loop-colour.string.items (c.loop-colour.invariant ∙ ap (λ n. map (mark c.args.set.now c.from-inside.result) (points n)) end)
    (c.from-inside.ensures ∙ ap (λ t. from_bool (not t)) c.contains.ensures.value)).1
