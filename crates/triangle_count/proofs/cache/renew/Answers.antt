use Rattle.std.proofs.Common.{◌≡◌, ◌+◌, ◌*◌, ◌/◌, ◌%◌, ◌<◌, ◌||◌, List, false, length, get_or, slice_set, refl, ap, subst, sym, ◌∙◌, arith}
use Rattle.triangle_count.specs.declared.rows.Entry.{Entry}
use Rattle.triangle_count.specs.Row.{IsRowAt}
use Rattle.triangle_count.specs.Cache.{AreRightWhereUnmarked}
use Rattle.triangle_count.proofs.CacheLemmas.{AreRowsTo, AreRowsTo-more, AreRowsTo-set, AreRowsOf-from_places, AreRightWhereUnmarked-set, unmarked_at, neither}
use Rattle.triangle_count.proofs.cache.renew.Goals as goal
use Rattle.triangle_count.proofs.cache.renew.Goals.{then-touch+in_ok-row, else-touch}

pub loop-place-preserved : goal.loop-place-preserved
loop-place-preserved c =
    let C = c.args.c.now in
    let lefts = c.args.marks.now.lefts.items in
    let rights = c.args.marks.now.rights.items in
    let old = c.loop-place.rows.items in
    let new = c.if-touch.rows.items in
    let k = c.loop-place.place in
    let size = c.size-size.ensures.points in
    let done = c.loop-place.invariant.done in
    let kept = c.loop-place.invariant.kept in
    let below : k < C.size * C.size = omega (arith, c.loop-place-test.true, ap (λ n. n * n) size) in
    elim c.if-touch.branch [
      | then-touch+in_ok-row w ↦
          let row = w.in_ok-row.row in
          let is : IsRowAt C (k / C.size) (k % C.size) row = subst (λ n. IsRowAt C (k / n) (k % n) row) size w.in_ok-row.ensures in
          let items : new ≡ slice_set old k row = ap (λ v. v.items) w.rows-is in
          let l : k < length old = omega (arith, below, kept.one_a_pair) in
          record {
            done = subst (λ (rows : List (List Entry)). AreRowsTo C (k + 1) rows) (sym items) (AreRowsTo-set C k old row l done is);
            kept = subst (λ (rows : List (List Entry)). AreRightWhereUnmarked C lefts rights rows) (sym items) (AreRightWhereUnmarked-set C lefts rights old k row l kept is);
          }
      | else-touch w ↦
          let items : new ≡ old = ap (λ v. v.items) w.rows-is in
          let none : ((get_or lefts (k / C.size) false) || (get_or rights (k % C.size) false)) ≡ false = ap (λ n. (get_or lefts (k / n) false) || (get_or rights (k % n) false)) (sym size) ∙ sym c.touch.ensures ∙ w.if-touch.false in
          let both = neither (get_or lefts (k / C.size) false) (get_or rights (k % C.size) false) none in
          let is = unmarked_at C lefts rights old k c.size-size.ensures.within.colouring below kept both.0 both.1 in
          record {
            done = subst (λ (rows : List (List Entry)). AreRowsTo C (k + 1) rows) (sym items) (AreRowsTo-more C k old old done (λ p h. refl) is);
            kept = subst (λ (rows : List (List Entry)). AreRightWhereUnmarked C lefts rights rows) (sym items) kept;
          }
    ]

pub returns : goal.returns
returns c =
    let C = c.args.c.now in
    let k = c.loop-place.place in
    let all : k ≡ C.size * C.size = omega (arith, ap (λ n. n * n) c.size-size.ensures.points, c.loop-place-test.false, c.loop-place.auto.place-end) in
    AreRowsOf-from_places C k c.loop-place.rows.items all c.loop-place.invariant.kept.one_a_pair c.loop-place.invariant.done
