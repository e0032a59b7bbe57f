use Rattle.std.proofs.Common.{◌≡◌, ◌<◌, length, get_or, ap, subst, ◌∙◌, arith}
use Rattle.equitable.specs.Equitable.{IsEquitable}
use Rattle.equitable.specs.CellSplit.{IsAllowed}
use Rattle.equitable.proofs.OddRows.{first_inside, agree_more, agree_all, odd_from_rows, fits_at, all_below}
use Rattle.equitable.proofs.odd_steps.odd_step.Goals as goal

pub overflow_cast-first : goal.overflow_cast-first
overflow_cast-first c =
    let W = c.as_slice-cells.result.now in
    let len : length W ≡ c.args.arcs.now.size = ap length c.as_slice-cells.ensures.cells ∙ c.requires in
    let hx : c.loop-x.x < length W = omega (arith, c.loop-x-test.true, c.size-x-end.ensures.points, len) in
    let f = first_inside W c.loop-x.x hx in
    omega (arith, f.0, c.first_in-first.ensures, ap length c.as_slice-cells.ensures.cells, c.as_slice-cells.ensures.within.few)

pub arc_row-requires-clause-below : goal.arc_row-requires-clause-below
arc_row-requires-clause-below c =
    all_below c.as_slice-cells.result.now c.count-count.result
    (fits_at c.args.partition.now c.as_slice-cells.result.now c.count-count.result c.as_slice-cells.ensures.cells c.count-count.ensures
    c.as_slice-cells.ensures.within)

pub arc_row-requires-in-loop-x-clause-below : goal.arc_row-requires-in-loop-x-clause-below
arc_row-requires-in-loop-x-clause-below c =
    all_below c.as_slice-cells.result.now c.count-count.result
    (fits_at c.args.partition.now c.as_slice-cells.result.now c.count-count.result c.as_slice-cells.ensures.cells c.count-count.ensures
    c.as_slice-cells.ensures.within)

pub arc_row-requires-in-loop-x-clause-row : goal.arc_row-requires-in-loop-x-clause-row
arc_row-requires-in-loop-x-clause-row c =
    let W = c.as_slice-cells.result.now in
    let len : length W ≡ c.args.arcs.now.size = ap length c.as_slice-cells.ensures.cells ∙ c.requires in
    let hx : c.loop-x.x < length W = omega (arith, c.loop-x-test.true, c.size-x-end.ensures.points, len) in
    let f = first_inside W c.loop-x.x hx in
    omega (arith, f.0, c.first_in-first.ensures, len)

pub loop-x-preserved : goal.loop-x-preserved
loop-x-preserved c =
    agree_more c.args.arcs.now c.as_slice-cells.result.now c.deref.result.now c.deref-in-loop-x.result.now c.count-count.result c.loop-x.x
    c.first_in-first.result c.loop-x.invariant c.first_in-first.ensures
    (ap length c.deref.ensures.value ∙ c.in_ok-row.ensures.len) c.in_default.ensures.none
    (λ k l. ap (λ r. get_or r k 0) c.deref.ensures.value ∙ c.in_ok-row.ensures.counts k l)
    (λ k l. ap (λ r. get_or r k 0) c.deref-in-loop-x.ensures.value ∙ c.in_ok-home.ensures.counts k l)

pub returns-in-Some-clause-some : goal.returns-in-Some-clause-some
returns-in-Some-clause-some c =
    let W = c.as_slice-cells.result.now in
    let len : length W ≡ c.args.arcs.now.size = ap length c.as_slice-cells.ensures.cells ∙ c.requires in
    let hx : c.loop-x.x < c.args.arcs.now.size = omega (arith, c.loop-x-test.true, c.size-x-end.ensures.points) in
    let h = fits_at c.args.partition.now W c.count-count.result c.as_slice-cells.ensures.cells c.count-count.ensures c.as_slice-cells.ensures.within in
    subst (λ V. IsAllowed c.args.arcs.now V (record { cell = get_or W c.loop-x.x 0; into = c.in-Some.into })) c.as_slice-cells.ensures.cells
    (odd_from_rows c.args.arcs.now W c.deref.result.now c.deref-in-loop-x.result.now c.count-count.result c.loop-x.x c.first_in-first.result
    c.in-Some.into len h.numbers hx c.first_in-first.ensures
    (ap length c.deref.ensures.value ∙ c.in_ok-row.ensures.len) c.in-Some.ensures.some.0 c.in-Some.ensures.some.1
    (λ k l. ap (λ r. get_or r k 0) c.deref.ensures.value ∙ c.in_ok-row.ensures.counts k l)
    (λ k l. ap (λ r. get_or r k 0) c.deref-in-loop-x.ensures.value ∙ c.in_ok-home.ensures.counts k l))

pub returns-clause-none : goal.returns-clause-none
returns-clause-none c =
    let W = c.as_slice-cells.result.now in
    let len : length W ≡ c.args.arcs.now.size = ap length c.as_slice-cells.ensures.cells ∙ c.requires in
    let h = fits_at c.args.partition.now W c.count-count.result c.as_slice-cells.ensures.cells c.count-count.ensures c.as_slice-cells.ensures.within in
    subst (IsEquitable c.args.arcs.now) c.as_slice-cells.ensures.cells
    (agree_all c.args.arcs.now W c.count-count.result c.loop-x.x len h.numbers c.loop-x.invariant
    (omega (arith, c.loop-x-test.false, c.size-x-end.ensures.points)))
