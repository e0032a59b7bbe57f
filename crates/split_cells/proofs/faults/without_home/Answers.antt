use Rattle.std.proofs.Common.{◌≢◌, ◌*◌, ◌/◌, ◌<◌, sym, ap, subst, ◌∙◌, below_more, arith}
use Rattle.std.proofs.lemmas.List.{get_or_read}
use Rattle.trace_text.specs.declared.step_list.Step.TheVariants.{Tri}
use Rattle.split_cells.specs.Segments.{first_of}
use Rattle.split_cells.specs.Pairs.{fibre_of, partition_of}
use Rattle.split_cells.specs.Faults.{SplitsTwo}
use Rattle.split_cells.proofs.FaultSteps.{splits_homes, HasHomes-from}
use Rattle.split_cells.proofs.faults.without_home.Goals as goal

pub returns-then-home-left-clause-some : goal.returns-then-home-left-clause-some
returns-then-home-left-clause-some c =
    let pairs = c.args.pairs.now in
    let n = pairs.size in
    let h = c.requires.classed in
    let p = c.loop-p.p in
    let k = c.index-class.result.now in
    let hp : p < n * n = omega (arith, c.loop-p-test.true, ap (λ m. m * m) c.points-points.ensures) in
    let cp = get_or_read pairs.parting.class.items p k (omega (arith, hp, h.parting.classes, h.bound)) c.index-class.ensures 0 in
    let q = c.first.result in
    let hq : q < n * n = omega (arith, c.first.ensures.inside, h.bound) in
    let ne : fibre_of pairs (q / n) ≢ fibre_of pairs (p / n) = λ e. c.if-home-left.true (c.home.ensures ∙ e ∙ sym c.home-left.ensures) in
    subst (λ d. SplitsTwo (partition_of pairs) pairs.parting.rank (Tri k d k)) (sym c.home-left.ensures)
    (splits_homes pairs h c.requires.settled k p q hp hq (sym cp) c.first.ensures.class ne)

pub loop-p-preserved : goal.loop-p-preserved
loop-p-preserved c =
    let pairs = c.args.pairs.now in
    let n = pairs.size in
    let h = c.requires.classed in
    let p = c.loop-p.p in
    let k = c.index-class.result.now in
    let hp : p < n * n = omega (arith, c.loop-p-test.true, ap (λ m. m * m) c.points-points.ensures) in
    let cp = get_or_read pairs.parting.class.items p k (omega (arith, hp, h.parting.classes, h.bound)) c.index-class.ensures 0 in
    below_more _ _ c.loop-p.invariant
    (ap (λ j. fibre_of pairs (first_of pairs.parting j / n)) (sym cp) ∙ ap (λ q. fibre_of pairs (q / n)) (sym c.first.ensures.first) ∙ sym c.home.ensures ∙ c.if-home-left.false ∙ c.home-left.ensures)

pub returns-clause-none : goal.returns-clause-none
returns-clause-none c =
    HasHomes-from c.args.pairs.now c.requires.classed (λ p l. c.loop-p.invariant p (omega (arith, l, c.loop-p-test.false, ap (λ m. m * m) c.points-points.ensures)))

pub index-class-requires : goal.index-class-requires
index-class-requires c =
    let pairs = c.args.pairs.now in
    let h = c.requires.classed in
    omega (arith, c.loop-p-test.true, ap (λ m. m * m) c.points-points.ensures, h.parting.classes, h.bound, pairs.parting.class.ok.0)

pub home-left-requires-clause-inside : goal.home-left-requires-clause-inside
home-left-requires-clause-inside c = omega (arith, c.loop-p-test.true, ap (λ m. m * m) c.points-points.ensures, c.requires.classed.bound)

pub first-requires-clause-class : goal.first-requires-clause-class
first-requires-clause-class c =
    let pairs = c.args.pairs.now in
    let n = pairs.size in
    let h = c.requires.classed in
    let p = c.loop-p.p in
    let hp : p < n * n = omega (arith, c.loop-p-test.true, ap (λ m. m * m) c.points-points.ensures) in
    omega (arith, get_or_read pairs.parting.class.items p c.index-class.result.now (omega (arith, hp, h.parting.classes, h.bound)) c.index-class.ensures 0, h.parting.class_in p (omega (arith, hp, h.bound)))

pub first-requires-clause-member : goal.first-requires-clause-member
first-requires-clause-member c =
    let pairs = c.args.pairs.now in
    let n = pairs.size in
    let h = c.requires.classed in
    let p = c.loop-p.p in
    let hp : p < n * n = omega (arith, c.loop-p-test.true, ap (λ m. m * m) c.points-points.ensures) in
    c.requires.used c.index-class.result.now
    (omega (arith, get_or_read pairs.parting.class.items p c.index-class.result.now (omega (arith, hp, h.parting.classes, h.bound)) c.index-class.ensures 0, h.parting.class_in p (omega (arith, hp, h.bound))))
