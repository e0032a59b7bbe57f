use Rattle.std.proofs.Common.{◌≡◌, ◌+◌, ◌*◌, ◌/◌, ◌%◌, List, ap, subst, sym, rules, ◌∙◌, arith}
use Rattle.triangle_count.specs.declared.rows.Entry.{Entry}
use Rattle.triangle_count.specs.Row.{IsRowAt}
use Rattle.triangle_count.proofs.CacheLemmas.{AreRowsTo, AreRowsTo-push, AreRowsOf-from_places}
use Rattle.triangle_count.proofs.cache.rows_of.Goals as goal

pub loop-place-preserved : goal.loop-place-preserved
loop-place-preserved c =
    let C = c.args.c.now in
    let place = c.loop-place.place in
    let row = c.in_ok-row_at.field-0 in
    let is : IsRowAt C (place / C.size) (place % C.size) row = subst (λ n. IsRowAt C (place / n) (place % n) row) c.size-size.ensures.points c.in_ok-row_at.ensures in
    record {
      count = search (rules, arith);
      rows = subst (λ (rows : List (List Entry)). AreRowsTo C (place + 1) rows) (sym c.in_ok-push.ensures.items)
          (AreRowsTo-push C place c.loop-place.rows.items row c.loop-place.invariant.count c.loop-place.invariant.rows is);
    }

pub returns : goal.returns
returns c =
    let C = c.args.c.now in
    let k = c.loop-place.place in
    let square = ap (λ n. n * n) c.size-size.ensures.points in
    let all : k ≡ C.size * C.size = omega (arith, square, c.loop-place-test.false, c.loop-place.auto.place-end) in
    AreRowsOf-from_places C k c.loop-place.rows.items all (c.loop-place.invariant.count ∙ all) c.loop-place.invariant.rows
