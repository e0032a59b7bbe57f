use Rattle.std.proofs.Common.{◌/◌, ◌%◌, sym, subst, ◌∙◌}
use Rattle.drg_arrays.specs.Answer.{IsDisconnectedAt}
use Rattle.drg_arrays.specs.Tables.{IsDistanceTable, AreDistances}
use Rattle.drg_arrays.proofs.TableLemmas.{IsDisconnectedAt-from_table, AreDistances-from_table}
use Rattle.drg_arrays.proofs.arrays.judged.Goals as goal

pub returns-in-Some : goal.returns-in-Some
returns-in-Some c =
    let G = c.args.graph.now in
    let table = c.deref.result.now in
    let p = c.in-Some.place in
    let h = subst (λ t. IsDistanceTable G t G.size) (sym c.deref.ensures.value) c.in_ok-table.ensures in
    subst (λ n. IsDisconnectedAt G (p / n) (p % n)) (sym c.size-size.ensures.points)
    (IsDisconnectedAt-from_table G table c.size-size.ensures.within.has_points h p c.in-Some.ensures.within c.in-Some.ensures.found c.in-Some.ensures.before)

pub compared-requires : goal.compared-requires
compared-requires c =
    let G = c.args.graph.now in
    let h = subst (λ t. IsDistanceTable G t G.size) (sym c.deref.ensures.value) c.in_ok-table.ensures in
    subst (AreDistances G) (c.deref.ensures.value ∙ sym c.deref-in-None.ensures.value)
    (AreDistances-from_table G c.deref.result.now c.size-size.ensures.within.has_points h c.in-None.ensures.none)
