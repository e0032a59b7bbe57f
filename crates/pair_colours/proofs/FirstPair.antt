use Rattle.std.proofs.Common.{◌≡◌, ◌==◌, ◌+◌, ◌<◌, ℕ, Bool, true, false, not, cond, List, [], ◌∷◌, ◌++◌, ◌||◌, length, get_or, map, filter, take, drop, find, Option, None, Some, slice_get, refl, sym, ap, ◌∙◌, arith}
use Rattle.std.specs.Option.{option_or}
use Rattle.std.specs.List.{flat_map, list_any}
use Rattle.std.proofs.lemmas.Bool.{eq-eqb, ne_eqb}
use Rattle.std.proofs.lemmas.List.{append_assoc, append-nil, map-append, take-append-drop, drop_more, map-id}
use Rattle.std.proofs.lemmas.List.Elements.{filter-append}
use Rattle.std.proofs.lemmas.List.Folds.{find-append}
use Rattle.std.proofs.lemmas.List.FromFn.{take-map-range_with_len, get_or-range_with_len, length-range_with_len}
use Rattle.std.proofs.lemmas.Grind.{flat_map-append}
use Rattle.pair_colours.specs.Colouring.{PairColouring, IsColour, colour_at, points}
use Rattle.pair_colours.specs.Naming.{row_of, walk}
use Rattle.pair_colours.proofs.Walked.{diagonal_to, rows_to, row_to, row_to_more}
use Rattle.pair_colours.proofs.Counts.{points_more}
use Rattle.pair_colours.proofs.ListLemmas.{take_more_at, cut_at}
use Rattle.pair_colours.proofs.Names.{list_any-walk}

-- the first pair of a colour in a part of the walk
abbrev pub first_on : PairColouring → ℕ → List (ℕ × ℕ) → Option (ℕ × ℕ)
first_on A c ps = find (λ p. colour_at A p.0 p.1 == c) ps

list_any-from_find : {X : Type 0} (p : X → Bool) (xs : List X) → find p xs ≡ None → list_any p xs ≡ false
list_any-from_find p [] h = refl
list_any-from_find {X} p (x ∷ xs) h = by (p x) refl (list_any-from_find p xs)
  where
    by : (b : Bool) → p x ≡ b → (find p xs ≡ None → list_any p xs ≡ false) → list_any p (x ∷ xs) ≡ false
    by true e again = let z : Some x ≡ None = sym (ap (λ b. cond b (Some x) (find p xs)) e) ∙ h in cc
    by false e again = ap (λ b. b || list_any p xs) e ∙ again (sym (ap (λ b. cond b (Some x) (find p xs)) e) ∙ h)

-- a loop over the places of the walk finds the pair at a place, or goes on
pub first_found : (A : PairColouring) (c n k : ℕ) (p : ℕ × ℕ) → n ≡ A.size → first_on A c (take k (walk A.size)) ≡ None → slice_get (walk n) k ≡ Some p → colour_at A p.0 p.1 ≡ c
    → Some p ≡ first_on A c (walk A.size)
first_found A c n k p size h at is =
    let test : ℕ × ℕ → Bool = λ q. colour_at A q.0 q.1 == c in
    let front = take k (walk A.size) in
    let rest = drop (k + 1) (walk A.size) in
    sym
    (ap (find test) (cut_at (walk A.size) k p (ap (λ m. slice_get (walk m) k) (sym size) ∙ at))
    ∙ find-append test front (p ∷ rest)
    ∙ ap (λ o. option_or o (find test (p ∷ rest))) h
    ∙ ap (λ b. cond b (Some p) (find test rest)) (eq-eqb (colour_at A p.0 p.1) c is))

pub first_later : (A : PairColouring) (c n k : ℕ) (p : ℕ × ℕ) → n ≡ A.size → first_on A c (take k (walk A.size)) ≡ None → slice_get (walk n) k ≡ Some p → (colour_at A p.0 p.1 ≡ c → ⊥)
    → first_on A c (take (k + 1) (walk A.size)) ≡ None
first_later A c n k p size h at ne =
    let test : ℕ × ℕ → Bool = λ q. colour_at A q.0 q.1 == c in
    let front = take k (walk A.size) in
    ap (find test) (take_more_at (walk A.size) k p (ap (λ m. slice_get (walk m) k) (sym size) ∙ at))
    ∙ find-append test front (p ∷ [])
    ∙ ap (λ o. option_or o (find test (p ∷ []))) h
    ∙ ap (λ b. cond b (Some p) None) (ne_eqb (colour_at A p.0 p.1) c ne)

-- the points, cut at one of them
points_cut : (n x : ℕ) → x < n → points n ≡ points x ++ x ∷ drop (x + 1) (points n)
points_cut n x h =
    let l : x < length (points n) = omega (arith, h, length-range_with_len 0 n) in
    let front : take x (points n) ≡ points x = ap (take x) (sym (map-id (points n))) ∙ take-map-range_with_len (λ z. z) 0 n x (omega (arith, h)) ∙ map-id (points x) in
    let here : get_or (points n) x 0 ≡ x = omega (arith, get_or-range_with_len 0 n x 0 h) in
    sym (take-append-drop x (points n)) ∙ (λ i. front i ++ drop_more (points n) x 0 l i) ∙ ap (λ z. points x ++ z ∷ drop (x + 1) (points n)) here

-- the walk, cut at a diagonal pair
pub walk_at_diagonal : (n x : ℕ) → x < n → (rest : List (ℕ × ℕ)) × (walk n ≡ diagonal_to x ++ (x, x) ∷ rest)
walk_at_diagonal n x h =
    let cut = points_cut n x h in
    let rest : List (ℕ × ℕ) = map (λ z. (z, z)) (drop (x + 1) (points n)) ++ flat_map (row_of n) (points n) in (
      rest,
      ap (λ ps. map (λ z. (z, z)) ps ++ flat_map (row_of n) (points n)) cut
          ∙ ap (λ ps. ps ++ flat_map (row_of n) (points n)) (map-append (λ z. (z, z)) (points x) (x ∷ drop (x + 1) (points n)))
          ∙ append_assoc (diagonal_to x) ((x, x) ∷ map (λ z. (z, z)) (drop (x + 1) (points n))) (flat_map (row_of n) (points n)),
    )

-- and at another
pub walk_at_row : (n x y : ℕ) → x < n → y < n → (x ≡ y → ⊥) → (rest : List (ℕ × ℕ)) × (walk n ≡ (rows_to n x ++ row_to x y) ++ (x, y) ∷ rest)
walk_at_row n x y hx hy ne =
    let cut = points_cut n x hx in
    let cuty = points_cut n y hy in
    let off : ℕ → Bool = λ z. not (x == z) in
    let after : List (ℕ × ℕ) = map (λ z. (x, z)) (filter off (drop (y + 1) (points n))) in
    let below : List (ℕ × ℕ) = flat_map (row_of n) (drop (x + 1) (points n)) in
    let row : row_of n x ≡ row_to x y ++ (x, y) ∷ after =
    ap (λ ps. map (λ z. (x, z)) (filter off ps)) cuty
    ∙ ap (map (λ z. (x, z))) (filter-append off (points y) (y ∷ drop (y + 1) (points n)))
    ∙ map-append (λ z. (x, z)) (filter off (points y)) (filter off (y ∷ drop (y + 1) (points n)))
    ∙ ap (λ b. row_to x y ++ map (λ z. (x, z)) (cond (not b) (y ∷ filter off (drop (y + 1) (points n))) (filter off (drop (y + 1) (points n))))) (ne_eqb x y ne) in
    let rows : flat_map (row_of n) (points n) ≡ flat_map (row_of n) (points x) ++ (row_of n x ++ below) =
    ap (flat_map (row_of n)) cut ∙ flat_map-append (row_of n) (points x) (x ∷ drop (x + 1) (points n)) in (
      after ++ below,
      ap (λ ps. diagonal_to n ++ ps) (rows ∙ ap (λ r. flat_map (row_of n) (points x) ++ (r ++ below)) row)
          ∙ simp append_assoc,
    )

-- the parts of the walk, a step on
pub diagonal_to_more : (x : ℕ) → diagonal_to (x + 1) ≡ diagonal_to x ++ (x, x) ∷ []
diagonal_to_more x = ap (map (λ z. (z, z))) (points_more x) ∙ map-append (λ z. (z, z)) (points x) (x ∷ [])

pub row_to_next : (n x y : ℕ) → (x ≡ y → ⊥) → rows_to n x ++ row_to x (y + 1) ≡ (rows_to n x ++ row_to x y) ++ (x, y) ∷ []
row_to_next n x y ne =
    ap (λ l. rows_to n x ++ l) (row_to_more x y (y ∷ []) (ap (λ b. cond (not b) (y ∷ []) []) (ne_eqb x y ne)))
    ∙ sym (append_assoc (rows_to n x) (row_to x y) ((x, y) ∷ []))

pub row_to_same : (x y : ℕ) → x ≡ y → row_to x (y + 1) ≡ row_to x y
row_to_same x y e = row_to_more x y [] (ap (λ b. cond (not b) (y ∷ []) []) (eq-eqb x y e)) ∙ append-nil (row_to x y)

pub rows_to_next : (n x : ℕ) → rows_to n x ++ row_to x n ≡ rows_to n (x + 1)
rows_to_next n x =
    append_assoc (diagonal_to n) (flat_map (row_of n) (points x)) (row_to x n)
    ∙ ap (λ l. diagonal_to n ++ l)
    (sym (ap (flat_map (row_of n)) (points_more x) ∙ flat_map-append (row_of n) (points x) (x ∷ []) ∙ ap (λ l. flat_map (row_of n) (points x) ++ l) (append-nil (row_of n x))))

-- a search that finds nothing: no pair has the colour
pub no_colour : (A : PairColouring) (c : ℕ) → first_on A c (walk A.size) ≡ None → IsColour A c → ⊥
no_colour A c none u =
    let there = list_any-walk (λ p. colour_at A p.0 p.1 == c) A.size u.x u.y u.row u.column (eq-eqb (colour_at A u.x u.y) c u.is) in
    let absent = list_any-from_find (λ p. colour_at A p.0 p.1 == c) (walk A.size) none in
    let z : false ≡ true = sym absent ∙ there in cc
