-- Lists that are written pair by pair.
use Rattle.std.proofs.Common.{◌≡◌, ℕ, ◌+◌, Bool, List, [], ◌∷◌, ◌++◌, map, sym, ap, ◌∙◌, append_assoc}
use Rattle.std.specs.List.{flat_map}
use Rattle.std.proofs.lemmas.Grind.{flat_map-append}
use Rattle.std.proofs.lemmas.List.{append-nil, map-append}
use Rattle.pair_colours.specs.Colouring.{PairColouring, colour_at, points}
use Rattle.pair_colours.specs.ColourSets.{is_in}
use Rattle.pair_colours.proofs.Counts.{points_more}
use Rattle.relation_text.specs.Orders.{column_pairs}
use Rattle.relation_text.specs.Written.{pair_bits}

-- the bits of the pairs that come first, and then of the pairs f 0 to f (k - 1)
abbrev pub bits_to : PairColouring → List ℕ → List (ℕ × ℕ) → (ℕ → ℕ × ℕ) → ℕ → List Bool
bits_to C set first f k = pair_bits C set (first ++ map f (points k))

pub bits_to-more : (C : PairColouring) (set : List ℕ) (first : List (ℕ × ℕ)) (f : ℕ → ℕ × ℕ) (k : ℕ) → bits_to C set first f (k + 1) ≡ bits_to C set first f k ++ is_in set (colour_at C (f k).0 (f k).1) ∷ []
bits_to-more C set first f k =
    let bit = λ (p : ℕ × ℕ). is_in set (colour_at C p.0 p.1) in
    ap (λ ps. map bit (first ++ ps)) (ap (map f) (points_more k) ∙ map-append f (points k) (k ∷ []))
    ∙ ap (map bit) (sym (append_assoc first (map f (points k)) (f k ∷ []))) ∙ map-append bit (first ++ map f (points k)) (f k ∷ [])

-- a whole column, and a whole row
abbrev pub column_pair : ℕ → ℕ → ℕ × ℕ
column_pair j i = (i, j)

abbrev pub row_pair : ℕ → ℕ → ℕ × ℕ
row_pair i j = (i, j)

abbrev pub rows_to : ℕ → ℕ → List (ℕ × ℕ)
rows_to n i = flat_map (λ u. map (row_pair u) (points n)) (points i)

flat_map-points_more : (f : ℕ → List (ℕ × ℕ)) (n : ℕ) → flat_map f (points (n + 1)) ≡ flat_map f (points n) ++ f n
flat_map-points_more f n = ap (flat_map f) (points_more n) ∙ flat_map-append f (points n) (n ∷ []) ∙ ap (λ xs. flat_map f (points n) ++ xs) (append-nil (f n))

pub column-next : (C : PairColouring) (set : List ℕ) (j : ℕ) → bits_to C set (column_pairs j) (column_pair j) j ≡ pair_bits C set (column_pairs (j + 1))
column-next C set j = ap (pair_bits C set) (sym (flat_map-points_more (λ v. map (column_pair v) (points v)) j))

pub row-next : (C : PairColouring) (set : List ℕ) (n i : ℕ) → bits_to C set (rows_to n i) (row_pair i) n ≡ pair_bits C set (rows_to n (i + 1))
row-next C set n i = ap (pair_bits C set) (sym (flat_map-points_more (λ u. map (row_pair u) (points n)) i))

-- one more bit
pub bits_to-push : (C : PairColouring) (set : List ℕ) (first : List (ℕ × ℕ)) (f : ℕ → ℕ × ℕ) (k : ℕ) (bit : Bool) (old new : List Bool) → old ≡ bits_to C set first f k
    → bit ≡ is_in set (colour_at C (f k).0 (f k).1) → new ≡ old ++ bit ∷ [] → new ≡ bits_to C set first f (k + 1)
bits_to-push C set first f k bit old new e is g = g ∙ ap (λ xs. xs ++ bit ∷ []) e ∙ ap (λ b. bits_to C set first f k ++ b ∷ []) is ∙ sym (bits_to-more C set first f k)
