use Rattle.std.proofs.Common.{true, false, refl, sym, ◌∙◌}
use Rattle.recolour_bench.specs.Steps.{one_fibre}
use Rattle.recolour_bench.proofs.EditTests.{one_fibre_is, fibre_refusal_is}
use Rattle.recolour_bench.proofs.refusals.fibre_refusal.Goals as goal
use Rattle.recolour_bench.proofs.refusals.fibre_refusal.Goals.{else-has_one_fibre-via-then-has_one_fibre+else-has_one_fibre-2, else-has_one_fibre-via-else-has_one_fibre}

pub returns-then-has_one_fibre-2 : goal.returns-then-has_one_fibre-2
returns-then-has_one_fibre-2 c =
    let K = c.args.closure.now in
    let L = c.args.factor.now in
    let left = c.has_one_fibre in
    let right = c.has_one_fibre-then-has_one_fibre in
    sym (fibre_refusal_is K L true true
    (one_fibre_is K left.result left.ensures.within.colouring left.ensures.answer ∙ c.if-has_one_fibre.true)
    (one_fibre_is L right.result right.ensures.within.colouring right.ensures.answer ∙ c.if-has_one_fibre-2.true))

pub returns-else-has_one_fibre : goal.returns-else-has_one_fibre
returns-else-has_one_fibre c =
    let K = c.args.closure.now in
    let L = c.args.factor.now in
    let left = c.has_one_fibre in
    elim c.else-has_one_fibre.branch [
      | else-has_one_fibre-via-then-has_one_fibre+else-has_one_fibre-2 w ↦
          let right = w.has_one_fibre-then-has_one_fibre in
          sym (fibre_refusal_is K L true false
          (one_fibre_is K left.result left.ensures.within.colouring left.ensures.answer ∙ w.if-has_one_fibre.true)
          (one_fibre_is L right.result right.ensures.within.colouring right.ensures.answer ∙ w.if-has_one_fibre-2.false))
      | else-has_one_fibre-via-else-has_one_fibre w ↦
          sym (fibre_refusal_is K L false (one_fibre L) (one_fibre_is K left.result left.ensures.within.colouring left.ensures.answer ∙ w.if-has_one_fibre.false) refl)
    ]
