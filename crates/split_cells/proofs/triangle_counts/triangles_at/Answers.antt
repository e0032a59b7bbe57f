use Rattle.std.proofs.Common.{◌+◌, ◌*◌, ◌<◌, get_or, ap, ◌∙◌, arith}
use Rattle.split_cells.proofs.GatherLemmas.{triangles_by_rows, some_size}
use Rattle.split_cells.proofs.triangle_counts.triangles_at.Goals as goal

pub returns : goal.returns
returns c =
    let pairs = c.args.pairs.now in
    let n = pairs.size in
    let class = pairs.parting.class.items in
    let h = c.requires.classed in
    let inside : c.args.p < n * n = omega (arith, c.requires.inside, h.bound) in
    triangles_by_rows n class pairs.turned.items c.row-row.result.now c.column-column.result.now c.args.p c.args.left c.args.right c.common.result
    h.turned (some_size n c.args.p inside) inside c.row-row.ensures.len
    (λ z hz. c.row-row.ensures.entries z hz ∙ ap (λ x. get_or class (x * n + z) 0) c.first.ensures)
    (λ z hz. c.column-column.ensures.entries z hz ∙ ap (λ y. get_or pairs.turned.items (y * n + z) 0) c.second.ensures)
    c.common.ensures
