use Rattle.std.proofs.Common.{◌≡◌, ◌+◌, length, map, take, subst, sym, ap, ◌∙◌, arith}
use Rattle.equitable.specs.Equitable.{cell_number}
use Rattle.equitable.proofs.PartitionLoops.{cell_position, numbers_more}
use Rattle.pair_colours.specs.Naming.{first_met}
use Rattle.pair_colours.proofs.Few.{first_met-le}
use Rattle.equitable.proofs.partition.Partition.numbered.Goals as goal

pub overflow_cast-number : goal.overflow_cast-number
overflow_cast-number c =
    omega (
      arith,
      c.in-Some.ensures.within,
      ap length c.in_ok-met.ensures,
      first_met-le c.deref.result.now,
      ap length c.deref.ensures.value,
      c.self.invariant.few,
    )

pub unreachable-requires : goal.unreachable-requires
unreachable-requires c =
    let same = c.deref.ensures.value ∙ sym c.deref-cell-items.ensures.value in
    let e = c.get_index_of.ensures.index
    ∙ cell_position c.deref-cell-items.result.now c.in_ok-met.met.keys c.loop-cell.cell-index _ (c.in_ok-met.ensures
    ∙ ap first_met same) c.loop-cell-test.true in
    cc

pub loop-cell-preserved : goal.loop-cell-preserved
loop-cell-preserved c =
    let same = c.deref.ensures.value ∙ sym c.deref-cell-items.ensures.value in
    let xs = c.deref-cell-items.result.now in
    let i = c.loop-cell.cell-index in
    let e = c.get_index_of.ensures.index ∙ cell_position xs c.in_ok-met.met.keys i _ (c.in_ok-met.ensures ∙ ap first_met same) c.loop-cell-test.true in
    let is = c.deref-cell-items.ensures.value ∙ c.self.view_is in
    subst (λ W. c.push.new.self ≡ map (cell_number W) (take (i + 1) xs)) is
    (numbers_more xs i _ c.in-Some.number c.loop-cell.numbers c.push.new.self c.get_index_of.result c.loop-cell-test.true
    (subst (λ W. c.loop-cell.numbers ≡ map (cell_number W) (take i xs)) (sym is) c.loop-cell.invariant) e c.in-Some.is c.in_ok-push-in-Some.ensures.ok)
