use Rattle.std.proofs.Common.{◌<◌, get_or, sym, ◌∙◌, below_more, arith}
use Rattle.wl_round.proofs.RowCodeLemmas.{short_stands}
use Rattle.wl_round.proofs.row_codes.covers.Goals as goal

pub returns-then-lead-short-clause-no : goal.returns-then-lead-short-clause-no
returns-then-lead-short-clause-no c = λ covers.
    let n = c.args.size in
    let class = c.args.class.now in
    let z = c.loop-z.z in
    let hz : z < n = omega (arith, c.loop-z-test.true, c.row_of-row.ensures.len) in
    let k = get_or c.row_of-row.result.now z 0 in
    let own = c.row_of-row.ensures.entries z hz in
    let w = covers.at z hz in
    let place = get_or c.args.short.now k 0 in
    c.if-lead-short.true
    (c.row_of-lead.ensures.entries place (c.requires.short.low k) ∙ short_stands n class c.args.a k w.0 c.args.short.now c.requires.short w.1 (w.2 ∙ sym own))

pub loop-z-preserved : goal.loop-z-preserved
loop-z-preserved c =
    let n = c.args.size in
    let z = c.loop-z.z in
    let hz : z < n = omega (arith, c.loop-z-test.true, c.row_of-row.ensures.len) in
    let k = get_or c.row_of-row.result.now z 0 in
    let place = get_or c.args.short.now k 0 in
    let low = c.requires.short.low k in
    below_more _ _ c.loop-z.invariant (place, low, sym (c.row_of-lead.ensures.entries place low) ∙ c.if-lead-short.false ∙ c.row_of-row.ensures.entries z hz)
