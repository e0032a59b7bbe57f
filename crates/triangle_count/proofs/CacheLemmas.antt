-- Rows by the places of their pairs, and the rows that a change of colours leaves as they are.
use Rattle.std.proofs.Common.{◌≡◌, ◌==◌, ◌&&◌, ◌||◌, ℕ, ◌+◌, ◌*◌, ◌/◌, ◌%◌, ◌<◌, ◌≤◌, Bool, true, false, List, [], ◌∷◌, ◌++◌, length, get_or, take, slice_set, count_by, All, ⊎_elim, refl, sym, ap, subst, ◌∙◌, arith}
use Rattle.std.proofs.lemmas.Bool.{cases_lt, cases_eq, true≢false}
use Rattle.std.proofs.lemmas.Nat.{div-mul-add, mod-mul-add, div-add-mod'}
use Rattle.std.proofs.lemmas.List.{length-set, get_or-set_same, get_or-set_other, take_more, get_or_push, get_or_append_left}
use Rattle.std.proofs.lemmas.List.Elements.{All-push}
use Rattle.pair_colours.specs.Colouring.{PairColouring, IsColouring, colour_at, points, triangles}
use Rattle.pair_colours.proofs.Counts.{count_by_points}
use Rattle.pair_colours.proofs.Places.{place_below, row_below, column_below}
use Rattle.triangle_count.specs.declared.rows.Entry.{Entry}
use Rattle.triangle_count.specs.Row.{IsRowAt}
use Rattle.triangle_count.specs.Cache.{AreRowsOf, AgreeElsewhere, AreMarked, AreRightWhereUnmarked}

-- the rows at the places below k
pub record AreRowsTo (C : PairColouring) (k : ℕ) (rows : List (List Entry)) : Type 0 where
  pub each : (p : ℕ) → p < k → IsRowAt C (p / C.size) (p % C.size) (get_or rows p [])

-- one more
pub AreRowsTo-more : (C : PairColouring) (k : ℕ) (old new : List (List Entry)) → AreRowsTo C k old → ((p : ℕ) → p < k → get_or new p [] ≡ get_or old p [])
    → IsRowAt C (k / C.size) (k % C.size) (get_or new k []) → AreRowsTo C (k + 1) new
AreRowsTo-more C k old new r keeps here = record {
  each = λ p h. ⊎_elim
      (λ (m : p < k). subst (λ (row : List Entry). IsRowAt C (p / C.size) (p % C.size) row) (sym (keeps p m)) (r.each p m))
      (λ (m : k ≤ p). let q : k ≡ p = omega arith in subst (λ w. IsRowAt C (w / C.size) (w % C.size) (get_or new w [])) q here)
      (cases_lt p k);
}

-- a row at the end
pub AreRowsTo-push : (C : PairColouring) (k : ℕ) (rows : List (List Entry)) (row : List Entry) → length rows ≡ k → AreRowsTo C k rows → IsRowAt C (k / C.size) (k % C.size) row
    → AreRowsTo C (k + 1) (rows ++ row ∷ [])
AreRowsTo-push C k rows row l r is = AreRowsTo-more C k rows (rows ++ row ∷ []) r
    (λ p h. get_or_append_left rows (row ∷ []) [] p (omega (arith, h, l)))
    (subst (λ (w : List Entry). IsRowAt C (k / C.size) (k % C.size) w) (sym (get_or_push rows row [] k l)) is)

-- a row in its place
pub AreRowsTo-set : (C : PairColouring) (k : ℕ) (rows : List (List Entry)) (row : List Entry) → k < length rows → AreRowsTo C k rows → IsRowAt C (k / C.size) (k % C.size) row
    → AreRowsTo C (k + 1) (slice_set rows k row)
AreRowsTo-set C k rows row l r is = AreRowsTo-more C k rows (slice_set rows k row) r
    (λ p h. get_or-set_other rows k p row [] (λ q. absurd (omega (arith, h, q))))
    (subst (λ (w : List Entry). IsRowAt C (k / C.size) (k % C.size) w) (sym (get_or-set_same rows k row [] l)) is)

-- all of them
pub AreRowsOf-from_places : (C : PairColouring) (k : ℕ) (rows : List (List Entry)) → k ≡ C.size * C.size → length rows ≡ C.size * C.size → AreRowsTo C k rows → AreRowsOf C rows
AreRowsOf-from_places C k rows e l r = record {
  one_a_pair = l;
  each = λ x y hx hy.
      let p = x * C.size + y in
      let below : p < k = omega (arith, e, place_below C.size x y hx hy) in
      subst (λ w. IsRowAt C w y (get_or rows p [])) (div-mul-add x C.size y hy)
      (subst (λ w. IsRowAt C (p / C.size) w (get_or rows p [])) (mod-mul-add x C.size y hy) (r.each p below));
}

-- a row at a place that is not marked is right
pub unmarked_at : (C : PairColouring) (lefts rights : List Bool) (rows : List (List Entry)) (k : ℕ) → IsColouring C → k < C.size * C.size → AreRightWhereUnmarked C lefts rights rows
    → get_or lefts (k / C.size) false ≡ false → get_or rights (k % C.size) false ≡ false → IsRowAt C (k / C.size) (k % C.size) (get_or rows k [])
unmarked_at C lefts rights rows k is h r f g =
    subst (λ w. IsRowAt C (k / C.size) (k % C.size) (get_or rows w [])) (div-add-mod' k C.size)
    (r.each (k / C.size) (k % C.size) (row_below C.size k is.has_points h) (column_below C.size k is.has_points) f g)

-- a row that is right in its place leaves the others right
pub AreRightWhereUnmarked-set : (C : PairColouring) (lefts rights : List Bool) (rows : List (List Entry)) (k : ℕ) (row : List Entry) → k < length rows
    → AreRightWhereUnmarked C lefts rights rows → IsRowAt C (k / C.size) (k % C.size) row → AreRightWhereUnmarked C lefts rights (slice_set rows k row)
AreRightWhereUnmarked-set C lefts rights rows k row l r is = record {
  one_a_pair = length-set rows k row ∙ r.one_a_pair;
  each = λ x y hx hy f g. ⊎_elim
      (λ (q : x * C.size + y ≡ k). here x y hy q)
      (λ ne. subst (λ (w : List Entry). IsRowAt C x y w) (sym (get_or-set_other rows k (x * C.size + y) row [] ne)) (r.each x y hx hy f g))
      (cases_eq (x * C.size + y) k);
}
  where
    here : (x y : ℕ) → y < C.size → x * C.size + y ≡ k → IsRowAt C x y (get_or (slice_set rows k row) (x * C.size + y) [])
    here x y hy q =
        let same : get_or (slice_set rows k row) (x * C.size + y) [] ≡ row = ap (λ w. get_or (slice_set rows k row) w []) q ∙ get_or-set_same rows k row [] l in
        let left : k / C.size ≡ x = ap (λ w. w / C.size) (sym q) ∙ div-mul-add x C.size y hy in
        let right : k % C.size ≡ y = ap (λ w. w % C.size) (sym q) ∙ mod-mul-add x C.size y hy in
        subst (λ (w : List Entry). IsRowAt C x y w) (sym same)
        (subst (λ w. IsRowAt C w y row) left (subst (λ w. IsRowAt C (k / C.size) w row) right is))

-- the triangle numbers of a pair read only the colours from its first point and to its second
pub triangles_agree : (A B : PairColouring) (x y : ℕ) → A.size ≡ B.size → ((z : ℕ) → z < A.size → colour_at A x z ≡ colour_at B x z) → ((z : ℕ) → z < A.size → colour_at A z y ≡ colour_at B z y)
    → (i j : ℕ) → triangles A x y i j ≡ triangles B x y i j
triangles_agree A B x y sizes left right i j =
    count_by_points (λ z. (colour_at A x z == i) && (colour_at A z y == j)) (λ z. (colour_at B x z == i) && (colour_at B z y == j)) A.size
    (λ z hz. λ t. (left z hz t == i) && (right z hz t == j))
    ∙ ap (λ n. count_by (λ z. (colour_at B x z == i) && (colour_at B z y == j)) (points n)) sizes

-- and so does its row
pub IsRowAt-agree : (A B : PairColouring) (x y : ℕ) (entries : List Entry) → ((i j : ℕ) → triangles A x y i j ≡ triangles B x y i j) → IsRowAt A x y entries → IsRowAt B x y entries
IsRowAt-agree A B x y entries same r = record {
  rises = r.rises;
  nonzero = r.nonzero;
  counts = λ k d l. r.counts k d l ∙ same (get_or entries k d).left (get_or entries k d).right;
  complete = λ i j h. r.complete i j (omega (arith, h, same i j));
}

-- after a change, the rows of a cache are right where no end of a changed pair is marked
pub AreRightWhereUnmarked-from_rows : (A B : PairColouring) (changed : List (ℕ × ℕ)) (lefts rights : List Bool) (rows : List (List Entry)) → AreRowsOf A rows → AgreeElsewhere A B changed
    → AreMarked B.size changed lefts rights → AreRightWhereUnmarked B lefts rights rows
AreRightWhereUnmarked-from_rows A B changed lefts rights rows r agree marks = record {
  one_a_pair = r.one_a_pair ∙ ap (λ n. n * n) agree.sizes;
  each = λ x y hx hy f g.
      subst (λ n. IsRowAt B x y (get_or rows (x * n + y) [])) agree.sizes
      (IsRowAt-agree A B x y (get_or rows (x * A.size + y) []) (triangles_agree A B x y agree.sizes (left x hx f) (right y hy g))
      (r.each x y (omega (arith, hx, agree.sizes)) (omega (arith, hy, agree.sizes))));
}
  where
    left : (x : ℕ) → x < B.size → get_or lefts x false ≡ false → (z : ℕ) → z < A.size → colour_at A x z ≡ colour_at B x z
    left x hx f z hz = agree.others x z (omega (arith, hx, agree.sizes)) hz
        (λ a. let is : (get_or changed a.0 a.1).0 ≡ x = ap (λ (p : ℕ × ℕ). p.0) a.3 ∙ a.4.0 in
        let m = marks.left a.0 a.1 a.2 (omega (arith, is, hx)) in
        true≢false (sym m ∙ ap (λ w. get_or lefts w false) is ∙ f))

    right : (y : ℕ) → y < B.size → get_or rights y false ≡ false → (z : ℕ) → z < A.size → colour_at A z y ≡ colour_at B z y
    right y hy g z hz = agree.others z y hz (omega (arith, hy, agree.sizes))
        (λ a. let is : (get_or changed a.0 a.1).1 ≡ y = ap (λ (p : ℕ × ℕ). p.1) a.3 ∙ a.4.1 in
        let m = marks.right a.0 a.1 a.2 (omega (arith, is, hy)) in
        true≢false (sym m ∙ ap (λ w. get_or rights w false) is ∙ g))

-- the marks of one end of one more pair
marked_more : (end : ℕ × ℕ → ℕ) (n : ℕ) (changed : List (ℕ × ℕ)) (i : ℕ) (d : ℕ × ℕ) (old new : List Bool) → i < length changed
    → All (λ p. end p < n → get_or old (end p) false ≡ true) (take i changed) → ((k : ℕ) → get_or old k false ≡ true → get_or new k false ≡ true)
    → (end (get_or changed i d) < n → get_or new (end (get_or changed i d)) false ≡ true) → All (λ p. end p < n → get_or new (end p) false ≡ true) (take (i + 1) changed)
marked_more end n changed i d old new l all keeps here =
    subst (All (λ p. end p < n → get_or new (end p) false ≡ true)) (sym (take_more changed i d l))
    (All-push (λ p. end p < n → get_or new (end p) false ≡ true) (take i changed) (get_or changed i d) (λ k e m h. keeps (end (get_or (take i changed) k e)) (all k e m h)) here)

-- what it is to mark a point
pub record IsMarkMore (old : List Bool) (point : ℕ) (new : List Bool) : Type 0 where
  pub points : length new ≡ length old
  pub marked : point < length old → get_or new point false ≡ true
  pub others : (k : ℕ) → get_or old k false ≡ true → get_or new k false ≡ true

-- the marks of both ends of one more pair
pub AreMarked-more : (n : ℕ) (changed : List (ℕ × ℕ)) (i : ℕ) (d : ℕ × ℕ) (lefts rights lefts' rights' : List Bool) → i < length changed → AreMarked n (take i changed) lefts rights
    → IsMarkMore lefts (get_or changed i d).0 lefts' → IsMarkMore rights (get_or changed i d).1 rights' → AreMarked n (take (i + 1) changed) lefts' rights'
AreMarked-more n changed i d lefts rights lefts' rights' l m a b = record {
  left_marks = a.points ∙ m.left_marks;
  right_marks = b.points ∙ m.right_marks;
  left = marked_more (λ p. p.0) n changed i d lefts lefts' l m.left a.others (λ h. a.marked (omega (arith, h, m.left_marks)));
  right = marked_more (λ p. p.1) n changed i d rights rights' l m.right b.others (λ h. b.marked (omega (arith, h, m.right_marks)));
}

-- two tests that do not pass
pub neither : (a b : Bool) → (a || b) ≡ false → (a ≡ false) × (b ≡ false)
neither true b h = absurd (true≢false h)
neither false b h = (refl, h)
