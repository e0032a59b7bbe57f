use Rattle.std.proofs.Common.{◌*◌, ◌<◌, sym, ◌∙◌, arith}
use Rattle.std.proofs.lemmas.List.{get_or_read}
use Rattle.split_cells.proofs.FaultSteps.{splits_turned}
use Rattle.split_cells.proofs.faults.unsettled_pair.Goals as goal

pub returns-then-index-other-clause-some : goal.returns-then-index-other-clause-some
returns-then-index-other-clause-some c =
    let pairs = c.args.pairs.now in
    let n = pairs.size in
    let h = c.requires.classed in
    let p = c.args.p in
    let q = c.first-first.result in
    let k = c.index-class.result.now in
    let hp : p < n * n = omega (arith, c.requires.inside, h.bound) in
    let hq : q < n * n = omega (arith, c.first-first.ensures.inside, h.bound) in
    let cp = get_or_read pairs.parting.class.items p k (omega (arith, hp, h.parting.classes, h.bound)) c.index-class.ensures 0 in
    let first = get_or_read pairs.turned.items q c.index-other.result.now (omega (arith, hq, h.turned.len)) c.index-other.ensures 0 in
    let own = get_or_read pairs.turned.items p c.index.result.now (omega (arith, hp, h.turned.len)) c.index.ensures 0 in
    splits_turned pairs h k q p c.index-other.result.now hq hp c.first-first.ensures.class (sym cp) (sym first) (λ e. c.if-index-other.true (own ∙ e))
