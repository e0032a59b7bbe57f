use Rattle.std.proofs.Common.{◌+◌, ◌*◌, ◌<◌, get_or, sym, ap, subst, ◌∙◌, arith}
use Rattle.std.proofs.lemmas.List.{get_or_read}
use Rattle.pair_colours.specs.Colouring.{PairColouring, colour_at}
use Rattle.pair_colours.proofs.Places.{place_below}
use Rattle.trace_text.specs.Partition.{IsPartition}
use Rattle.split_cells.proofs.Labelled.{IsPartition-shown, few_classes, low, shown_at}
use Rattle.split_cells.proofs.cells.Cells.class_at.Goals as goal

pub index-requires : goal.index-requires
index-requires c =
    let pairs = c.self.inside.pairs in
    let n = pairs.size in
    let h = c.self.invariant.shown in
    let hx : c.args.x < n = omega (arith, c.requires.row, ap (λ (P : PairColouring). P.size) c.self.view_is) in
    let hy : c.args.y < n = omega (arith, c.requires.column, ap (λ (P : PairColouring). P.size) c.self.view_is) in
    omega (arith, c.row.ensures.entries c.args.y hy, low h (c.args.x * n + c.args.y) (place_below n c.args.x c.args.y hx hy), few_classes h, h.numbers.inverse.outer_len, c.self.inside.labels.outer.ok.0)

pub returns-clause-class : goal.returns-clause-class
returns-clause-class c =
    let pairs = c.self.inside.pairs in
    let n = pairs.size in
    let h = c.self.invariant.shown in
    let outer = c.self.inside.labels.outer.items in
    let hx : c.args.x < n = omega (arith, c.requires.row, ap (λ (P : PairColouring). P.size) c.self.view_is) in
    let hy : c.args.y < n = omega (arith, c.requires.column, ap (λ (P : PairColouring). P.size) c.self.view_is) in
    let p = c.args.x * n + c.args.y in
    let hp : p < n * n = place_below n c.args.x c.args.y hx hy in
    let k = get_or c.row.result.now c.args.y 0 in
    let is = c.row.ensures.entries c.args.y hy in
    let inside : k < n * n = omega (arith, is, low h p hp, few_classes h) in
    get_or_read outer k c.index.result.now (omega (arith, inside, h.numbers.inverse.outer_len)) c.index.ensures 0
    ∙ ap (λ v. get_or outer v 0) is ∙ sym (shown_at h p hp) ∙ ap (λ (P : PairColouring). colour_at P c.args.x c.args.y) c.self.view_is

pub returns-clause-within : goal.returns-clause-within
returns-clause-within c = subst (λ (P : PairColouring). IsPartition P) c.self.view_is (IsPartition-shown c.self.invariant.shown)
