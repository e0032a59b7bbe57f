-- The rows of all pairs of a colouring, kept while the colouring changes.
use Rattle.std.specs.Prelude.{◌≡◌, ℕ, ◌+◌, ◌*◌, ◌<◌, Bool, false, true, List, [], length, get_or, All, Any}
use Rattle.pair_colours.specs.Colouring.{PairColouring, colour_at}
use Rattle.triangle_count.specs.declared.rows.Entry.{Entry}
use Rattle.triangle_count.specs.Row.{IsRowAt}

-- a row for each pair: that of (x, y) stands at place x * size + y
pub record AreRowsOf (C : PairColouring) (rows : List (List Entry)) : Type 0 where
  pub one_a_pair : length rows ≡ C.size * C.size
  pub each : (x y : ℕ) → x < C.size → y < C.size → IsRowAt C x y (get_or rows (x * C.size + y) [])

-- A and B have one size, and one colour at each pair that is not among those of a list
pub record AgreeElsewhere (A B : PairColouring) (changed : List (ℕ × ℕ)) : Type 0 where
  pub sizes : A.size ≡ B.size
  pub others : (x y : ℕ) → x < A.size → y < A.size → (Any (λ p. (p.0 ≡ x) × (p.1 ≡ y)) changed → ⊥) → colour_at A x y ≡ colour_at B x y

-- the points below n from which a pair of a list leads are marked, and so are those to which one does
pub record AreMarked (n : ℕ) (changed : List (ℕ × ℕ)) (lefts rights : List Bool) : Type 0 where
  pub left_marks : length lefts ≡ n
  pub right_marks : length rights ≡ n
  pub left : All (λ p. p.0 < n → get_or lefts p.0 false ≡ true) changed
  pub right : All (λ p. p.1 < n → get_or rights p.1 false ≡ true) changed

-- the rows of the pairs (x, y) where neither x nor y is marked are right
pub record AreRightWhereUnmarked (C : PairColouring) (lefts rights : List Bool) (rows : List (List Entry)) : Type 0 where
  pub one_a_pair : length rows ≡ C.size * C.size
  pub each : (x y : ℕ) → x < C.size → y < C.size → get_or lefts x false ≡ false → get_or rights y false ≡ false
      → IsRowAt C x y (get_or rows (x * C.size + y) [])
