use Rattle.std.proofs.Common.{◌+◌, ◌<◌, length, get_or, set, refl, sym, ap, ◌∙◌, arith}
use Rattle.std.proofs.lemmas.List.{get_or_default}
use Rattle.equitable.proofs.OddRows.{row_start, row_yes, row_no}
use Rattle.equitable.proofs.odd_steps.arc_row.Goals as goal
use Rattle.equitable.proofs.odd_steps.arc_row.Goals.{then-get-eq1, else-get-eq1}

pub loop-z-init : goal.loop-z-init
loop-z-init c = row_start c.args.arcs.now c.args.cells.now c.in_ok-row.row.items c.args.x c.args.count (c.in_ok-row.ensures.items_if_clones_equal (λ y e. e))

pub loop-z-preserved : goal.loop-z-preserved
loop-z-preserved c =
    let G = c.args.arcs.now in
    let W = c.args.cells.now in
    let cell = get_or W c.loop-z.z 0 in
    let old = c.loop-z.row.items in
    let low : cell < c.args.count = c.requires.below c.loop-z.z 0 (omega (arith, c.loop-z-test.true, c.size-z-end.ensures.points, c.requires.points)) in
    let inside : cell < length old = omega (arith, low, c.loop-z.invariant.room) in
    elim c.if-get-eq1.branch [
      | then-get-eq1 w ↦
          row_yes G W old c.if-get-eq1.row.items c.args.x c.args.count c.loop-z.z cell c.loop-z.invariant (sym c.get.ensures ∙ w.if-get-eq1.true) refl
          low
          ((λ i. (w.row-is i).items) ∙ ap (λ v. set old cell (v + 1)) (w.index_mut.ensures.value ∙ get_or_default old cell _ 0 inside))
      | else-get-eq1 w ↦ row_no G W old c.if-get-eq1.row.items c.args.x c.args.count c.loop-z.z c.loop-z.invariant
          (λ e. w.if-get-eq1.false (c.get.ensures ∙ e)) (λ i. (w.row-is i).items)
    ]
