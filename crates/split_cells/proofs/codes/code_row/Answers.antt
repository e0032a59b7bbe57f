use Rattle.std.proofs.Common.{◌≡◌, ◌≢◌, ◌+◌, ◌*◌, ◌/◌, ◌<◌, get_or, set, sym, ap, subst, ◌∙◌, arith}
use Rattle.std.proofs.lemmas.Nat.{div-mul-add}
use Rattle.pair_colours.proofs.Places.{place_below}
use Rattle.trace_text.specs.declared.step_list.Step.TheVariants.{Tri}
use Rattle.std.specs.Vec.{with_item}
use Rattle.split_cells.specs.declared.codes.Codes.{Codes}
use Rattle.split_cells.specs.Segments.{class_at}
use Rattle.split_cells.specs.Pairs.{fibre_of, lead_of, partition_of}
use Rattle.split_cells.specs.Faults.{SplitsTwo}
use Rattle.split_cells.specs.Codes.{IsCodedTo}
use Rattle.split_cells.proofs.CodeTables.{IsCodedTo-more}
use Rattle.split_cells.proofs.FaultSteps.{below, splits_unknown}
use Rattle.split_cells.proofs.codes.code_row.Goals as goal

pub bounds-short-class : goal.bounds-short-class
bounds-short-class c =
    let pairs = c.args.pairs.now in
    let n = pairs.size in
    let z = c.loop-z.z in
    let hz : z < n = omega (arith, c.loop-z-test.true, c.points-size.ensures) in
    omega (arith, c.row-row.ensures.entries z hz, below pairs c.requires.classed (c.args.x * n + z) (place_below n c.args.x z c.requires.point hz), c.requires.len)

pub returns-then-first-number-clause-some : goal.returns-then-first-number-clause-some
returns-then-first-number-clause-some c =
    let pairs = c.args.pairs.now in
    let n = pairs.size in
    let x = c.args.x in
    let z = c.loop-z.z in
    let short = c.args.short.now in
    let rank = pairs.parting.rank in
    let hz : z < n = omega (arith, c.loop-z-test.true, c.points-size.ensures) in
    let own = c.row-row.ensures.entries x c.requires.point in
    let row = c.row-row.ensures.entries z hz in
    let back = c.column.ensures.entries z hz ∙ c.requires.classed.turned.is x z c.requires.point hz in
    let number = get_or short (get_or c.row-row.result.now z 0) 0 in
    let first = c.row-first.ensures.entries number (c.requires.short.low (get_or c.row-row.result.now z 0)) ∙ ap (λ l. class_at pairs.parting (l * n + number)) c.lead.ensures.lead in
    let unknown : class_at pairs.parting (lead_of pairs (fibre_of pairs x) * n + get_or short (class_at pairs.parting (x * n + z)) 0) ≢ class_at pairs.parting (x * n + z) =
    λ e. c.if-first-number.true (first ∙ ap (λ k. class_at pairs.parting (lead_of pairs (fibre_of pairs x) * n + get_or short k 0)) row ∙ e ∙ sym row) in
    let step = splits_unknown pairs c.requires.classed c.requires.settled short x z c.requires.used c.requires.short c.requires.point hz unknown in
    subst (λ k. SplitsTwo (partition_of pairs) rank (Tri k (get_or c.row-row.result.now z 0) (get_or c.column.result.now z 0))) (sym own)
    (subst (λ k. SplitsTwo (partition_of pairs) rank (Tri (fibre_of pairs x) k (get_or c.column.result.now z 0))) (sym row)
    (subst (λ k. SplitsTwo (partition_of pairs) rank (Tri (fibre_of pairs x) (class_at pairs.parting (x * n + z)) k)) (sym back) step))

pub loop-z-preserved : goal.loop-z-preserved
loop-z-preserved c =
    let pairs = c.args.pairs.now in
    let n = pairs.size in
    let x = c.args.x in
    let z = c.loop-z.z in
    let short = c.args.short.now in
    let hz : z < n = omega (arith, c.loop-z-test.true, c.points-size.ensures) in
    let row = c.row-row.ensures.entries z hz in
    let number = get_or short (get_or c.row-row.result.now z 0) 0 in
    let left = number * c.points-size.result in
    let first = c.row-first.ensures.entries number (c.requires.short.low (get_or c.row-row.result.now z 0)) ∙ ap (λ l. class_at pairs.parting (l * n + number)) c.lead.ensures.lead in
    let known : class_at pairs.parting (lead_of pairs (fibre_of pairs ((x * n + z) / n)) * n + number) ≡ class_at pairs.parting (x * n + z) =
    ap (λ w. class_at pairs.parting (lead_of pairs (fibre_of pairs w) * n + number)) (div-mul-add x n z hz) ∙ sym first ∙ c.if-first-number.false ∙ row in
    let old = c.loop-z.codes in
    let new : Codes = record {
      lefts = with_item old.lefts (x * c.points-size.result + z) left;
      rights = with_item old.rights (x * c.points-size.result + z) number;
    } in
    let whole : x * n + z + 1 ≡ x * n + (z + 1) = omega arith in
    subst (λ t. IsCodedTo pairs short t new) whole
    (IsCodedTo-more pairs short (x * n + z) left number old new (place_below n x z c.requires.point hz) (ap (λ k. get_or short k 0) row)
    (λ i. number * c.points-size.ensures i) known
    (ap (λ m. set old.lefts.items (x * m + z) left) c.points-size.ensures) (ap (λ m. set old.rights.items (x * m + z) number) c.points-size.ensures) c.loop-z.invariant)

pub returns-clause-none : goal.returns-clause-none
returns-clause-none c =
    let n = c.args.pairs.now.size in
    let end : c.loop-z.z ≡ n = omega (arith, c.loop-z.auto.z-end, c.loop-z-test.false, c.points-size.ensures) in
    let whole : c.args.x * n + c.loop-z.z ≡ (c.args.x + 1) * n = omega (arith, end) in
    subst (λ t. IsCodedTo c.args.pairs.now c.args.short.now t c.loop-z.codes) whole c.loop-z.invariant
