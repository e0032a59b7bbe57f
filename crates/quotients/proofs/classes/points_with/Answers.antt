use Rattle.std.proofs.Common.{◌==◌, ℕ, ◌+◌, Bool, [], ◌∷◌, ◌++◌, get_or, refl, sym, ap, ◌∙◌}
use Rattle.std.proofs.lemmas.Bool.{eq-eqb, ne_eqb}
use Rattle.quotients.proofs.Points.{filter_points_yes, filter_points_no}
use Rattle.quotients.proofs.classes.points_with.Goals as goal
use Rattle.quotients.proofs.classes.points_with.Goals.{then-leasts-y+in_ok-push, else-leasts-y}

pub loop-y-preserved : goal.loop-y-preserved
loop-y-preserved c =
    let y = c.loop-y.y in
    let test : ℕ → Bool = λ z. get_or c.args.leasts.now z 0 == c.args.least in
    elim c.if-leasts-y.branch [
      | then-leasts-y+in_ok-push w ↦
          ap (λ v. v.items) w.found-is ∙ w.in_ok-push.ensures.items ∙ ap (λ xs. xs ++ y ∷ []) c.loop-y.invariant
          ∙ sym (filter_points_yes test y (y + 1) refl (eq-eqb _ _ w.if-leasts-y.true))
      | else-leasts-y w ↦
          ap (λ v. v.items) w.found-is ∙ c.loop-y.invariant
          ∙ sym (filter_points_no test y (y + 1) refl (ne_eqb _ _ w.if-leasts-y.false))
    ]
