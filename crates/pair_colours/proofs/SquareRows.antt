-- Rows of one length, joined.
use Rattle.std.proofs.Common.{◌≡◌, ◌==◌, ℕ, suc, zero, ◌+◌, ◌-◌, ◌*◌, ◌<◌, true, List, [], ◌∷◌, ◌++◌, length, get_or, flat_map, slice_get, IfSome, ap, ◌∙◌, arith}
use Rattle.std.specs.List.{list_all}
use Rattle.std.proofs.lemmas.Bool.{eqb-true, and_parts}
use Rattle.std.proofs.lemmas.List.{length-append, get_or_append_left, get_or-append_right}
use Rattle.std.proofs.lemmas.Option.{IfSome_then}

module _ {X : Type 0} (f : X → List ℕ) (n : ℕ) where
  pub length-rows : (rows : List X) → list_all (λ row. length (f row) == n) rows ≡ true → length (flat_map f rows) ≡ length rows * n
  length-rows [] h = omega arith
  length-rows (row ∷ rows) h =
      let both = and_parts (length (f row) == n) (list_all (λ row. length (f row) == n) rows) h in
      omega (arith, length-append (f row) (flat_map f rows), eqb-true (length (f row)) n both.0, length-rows rows both.1)

  -- the number at place y of row x
  pub row_at : (rows : List X) → list_all (λ row. length (f row) == n) rows ≡ true → (x y : ℕ) → y < n
      → IfSome (slice_get rows x) (λ row. get_or (flat_map f rows) (x * n + y) 0 ≡ get_or (f row) y 0)
  row_at [] h x y hy = tt
  row_at (row ∷ rows) h zero y hy =
      let len = eqb-true (length (f row)) n (and_parts (length (f row) == n) (list_all (λ row. length (f row) == n) rows) h).0 in
      let e : 0 * n + y ≡ y = omega arith in
      ap (λ k. get_or (f row ++ flat_map f rows) k 0) e ∙ get_or_append_left (f row) (flat_map f rows) 0 y (omega (arith, len, hy))
  row_at (row ∷ rows) h (suc x) y hy =
      let both = and_parts (length (f row) == n) (list_all (λ row. length (f row) == n) rows) h in
      let e : suc x * n + y - n ≡ x * n + y = omega arith in
      IfSome_then (slice_get rows x) (row_at rows both.1 x y hy)
      (λ other is. get_or-append_right (f row) (flat_map f rows) n (suc x * n + y) 0 (eqb-true (length (f row)) n both.0) (omega arith)
      ∙ ap (λ k. get_or (flat_map f rows) k 0) e ∙ is)
