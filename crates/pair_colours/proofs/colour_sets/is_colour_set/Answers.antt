use Rattle.std.proofs.Common.{◌≡◌, ◌<◌, ◌≤◌, true, false, get_or, refl, sym, ap, subst, ◌∙◌, arith, ⊎_elim}
use Rattle.std.proofs.lemmas.Bool.{cases_lt}
use Rattle.pair_colours.specs.Colouring.{IsColour}
use Rattle.pair_colours.specs.ColourSets.{is_in}
use Rattle.pair_colours.proofs.ColourSets.{is_in-colour, IsColour-is_in, IsColourSet-each}
use Rattle.pair_colours.proofs.colour_sets.is_colour_set.Goals as goal

pub returns-then-not-contains : goal.returns-then-not-contains
returns-then-not-contains c =
    let C = c.args.relation.now in
    let x = get_or c.args.set.now c.loop-number.number-index 0 in
    let same : is_in c.in_ok-colours.colours x ≡ is_in C.colours x = λ i. (c.in_ok-colours.ensures ∙ ap is_in c.colours.ensures.colours) i x in (
      λ (t : false ≡ true). absurd (cc),
      λ h. sym c.if-not-contains.true ∙ c.contains.ensures ∙ same ∙ is_in-colour C c.colours.ensures.within.colouring x (h c.loop-number.number-index 0 c.loop-number-test.true),
    )

pub loop-number-preserved : goal.loop-number-preserved
loop-number-preserved c k l =
    let C = c.args.relation.now in
    let set = c.args.set.now in
    let i = c.loop-number.number-index in
    let x = get_or set i 0 in
    let same : is_in c.in_ok-colours.colours x ≡ is_in C.colours x = λ j. (c.in_ok-colours.ensures ∙ ap is_in c.colours.ensures.colours) j x in
    ⊎_elim (λ (b : k < i). c.loop-number.invariant k b)
    (λ (b : i ≤ k).
    let here : i ≡ k = omega (arith, b, l) in
    subst (λ j. IsColour C (get_or set j 0)) here (IsColour-is_in C c.colours.ensures.within.colouring x (sym same ∙ sym c.contains.ensures ∙ c.if-not-contains.false)))
    (cases_lt k i)

pub returns : goal.returns
returns c =
    let all = IsColourSet-each c.args.relation.now c.args.set.now c.loop-number.number-index c.loop-number-test.false c.loop-number.invariant in (λ t. all, λ h. refl)
