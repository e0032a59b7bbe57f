use Rattle.std.proofs.Common.{◌≡◌, ◌<◌, length, All, ap, subst, ◌∙◌, arith}
use Rattle.equitable.proofs.CellPoints.{members_inside, members_few}
use Rattle.equitable.proofs.OddRows.{fits_at, all_below}
use Rattle.equitable.proofs.waiting_cells.uneven_cells.Goals as goal

pub arcs_to_each-requires-clause-columns : goal.arcs_to_each-requires-clause-columns
arcs_to_each-requires-clause-columns c =
    members_inside c.as_slice-cells.result.now c.deref.result.now c.args.into c.args.arcs.now.size (c.deref.ensures.value ∙ c.in_ok-members.ensures)
    (ap length c.as_slice-cells.ensures.cells ∙ c.requires)

pub arcs_to_each-requires-clause-few : goal.arcs_to_each-requires-clause-few
arcs_to_each-requires-clause-few c =
    omega (
      arith,
      members_few c.as_slice-cells.result.now c.deref.result.now c.args.into (c.deref.ensures.value ∙ c.in_ok-members.ensures),
      ap length c.as_slice-cells.ensures.cells,
      c.as_slice-cells.ensures.within.few,
    )

pub mark_uneven-requires-clause-first : goal.mark_uneven-requires-clause-first
mark_uneven-requires-clause-first c =
    let W = c.as_slice-cells.result.now in
    let same : c.count-count.result ≡ length c.deref_mut.result.now = omega (arith, c.in_ok-first.ensures.len, ap length c.deref_mut.ensures.value) in
    subst (λ n. All (λ cell. cell < n) W) same
    (all_below W c.count-count.result
    (fits_at c.args.partition.now W c.count-count.result c.as_slice-cells.ensures.cells c.count-count.ensures c.as_slice-cells.ensures.within))

pub mark_uneven-requires-clause-uneven : goal.mark_uneven-requires-clause-uneven
mark_uneven-requires-clause-uneven c =
    let W = c.as_slice-cells.result.now in
    let same : c.count-count.result ≡ length c.deref_mut-2.result.now = omega (arith, c.in_ok-uneven.ensures.len, ap length c.deref_mut-2.ensures.value) in
    subst (λ n. All (λ cell. cell < n) W) same
    (all_below W c.count-count.result
    (fits_at c.args.partition.now W c.count-count.result c.as_slice-cells.ensures.cells c.count-count.ensures c.as_slice-cells.ensures.within))
