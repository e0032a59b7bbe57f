use Rattle.std.proofs.Common.{◌+◌, ◌*◌, ◌<◌, List, [], get_or, length, sym, ap, subst, ◌∙◌, arith}
use Rattle.std.proofs.lemmas.List.{get_or_default}
use Rattle.pair_colours.specs.Colouring.{PairColouring}
use Rattle.pair_colours.proofs.Places.{place_below}
use Rattle.triangle_count.specs.declared.rows.Entry.{Entry}
use Rattle.triangle_count.specs.Row.{IsRowAt}
use Rattle.triangle_count.specs.Cache.{AreRowsOf}
use Rattle.triangle_count.proofs.cache.Cache.row.Goals as goal

pub returns : goal.returns
returns c =
    let C = c.args.self.now in
    let x = c.args.x in
    let y = c.args.y in
    let rows = c.self.inside.rows.items in
    let kept : AreRowsOf C rows = subst (λ (A : PairColouring). AreRowsOf A rows) c.self.view_is c.self.invariant in
    let size = c.size.ensures.points ∙ ap (λ (A : PairColouring). A.size) c.self.view_is in
    let below : x * C.size + y < length rows = omega (arith, kept.one_a_pair, place_below C.size x y c.requires.row c.requires.column) in
    let is = c.index.ensures ∙ ap (λ n. get_or rows (x * n + y) c.index.result.now) size ∙ get_or_default rows (x * C.size + y) c.index.result.now [] below in
    subst (λ (row : List Entry). IsRowAt C x y row) (sym is) (kept.each x y c.requires.row c.requires.column)
