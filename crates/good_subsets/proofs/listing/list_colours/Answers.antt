use Rattle.std.proofs.Common.{◌++◌, ◌∷◌, [], sym, ap, ◌∙◌}
use Rattle.visitors.specs.Masks.{is_member}
use Rattle.visitors.proofs.MaskSets.{filter_yes, filter_no}
use Rattle.good_subsets.proofs.listing.list_colours.Goals as goal
use Rattle.good_subsets.proofs.listing.list_colours.Goals.{then-has_colour+in_ok-push, else-has_colour}

pub loop-colour-preserved : goal.loop-colour-preserved
loop-colour-preserved c =
    let p = is_member c.args.mask in
    let n = c.loop-colour.colour in
    elim c.if-has_colour.branch [
      | then-has_colour+in_ok-push w ↦ (λ i. (w.set-is i).items) ∙ w.in_ok-push.ensures.items ∙ ap (λ l. l ++ n ∷ []) c.loop-colour.invariant ∙ sym (filter_yes p n (sym c.has_colour.ensures ∙ w.if-has_colour.true))
      | else-has_colour w ↦ (λ i. (w.set-is i).items) ∙ c.loop-colour.invariant ∙ sym (filter_no p n (sym c.has_colour.ensures ∙ w.if-has_colour.false))
    ]
