-- The places of the pairs in their orders.
use Rattle.std.proofs.Common.{◌≡◌, ℕ, zero, suc, ◌+◌, ◌-◌, ◌*◌, ◌<◌, List, [], ◌∷◌, ◌++◌, length, map, get_or, sym, ap, subst, ◌∙◌, arith, inl, inr, length-append}
use Rattle.std.specs.List.{flat_map}
use Rattle.std.proofs.lemmas.Bool.{cases_lt}
use Rattle.std.proofs.lemmas.Grind.{flat_map-append}
use Rattle.std.proofs.lemmas.List.{append-nil, get_or_append_left, get_or-append-add}
use Rattle.std.proofs.lemmas.List.FromFn.{get_or-map-range_with_len, length-map-range_with_len}
use Rattle.pair_colours.specs.Colouring.{points}
use Rattle.pair_colours.proofs.Counts.{points_more}
use Rattle.relation_text.specs.Orders.{column_pairs, row_pairs, pair_at, column_place}

-- pieces one after the other, and how many pairs stand before a piece
abbrev pieces : (ℕ → List (ℕ × ℕ)) → ℕ → List (ℕ × ℕ)
pieces f n = flat_map f (points n)

pieces-more : (f : ℕ → List (ℕ × ℕ)) (n : ℕ) → pieces f (suc n) ≡ pieces f n ++ f n
pieces-more f n =
    let next : suc n ≡ n + 1 = omega arith in
    ap (flat_map f) (ap points next ∙ points_more n) ∙ flat_map-append f (points n) (n ∷ []) ∙ ap (λ xs. pieces f n ++ xs) (append-nil (f n))

length-pieces-more : (f : ℕ → List (ℕ × ℕ)) (n : ℕ) → length (pieces f (suc n)) ≡ length (pieces f n) + length (f n)
length-pieces-more f n = ap length (pieces-more f n) ∙ length-append (pieces f n) (f n)

-- each place is a place of one of the pieces
record IsInPiece (f : ℕ → List (ℕ × ℕ)) (n k : ℕ) : Type 0 where
  pub piece : ℕ
  pub offset : ℕ
  pub earlier : piece < n
  pub inside : offset < length (f piece)
  pub place : k ≡ length (pieces f piece) + offset
  pub pair : get_or (pieces f n) k (0, 0) ≡ get_or (f piece) offset (0, 0)

later : (f : ℕ → List (ℕ × ℕ)) (n k : ℕ) → IsInPiece f n k → k < length (pieces f n) → IsInPiece f (suc n) k
later f n k at h = record {
  piece = at.piece;
  offset = at.offset;
  earlier = omega (arith, at.earlier);
  inside = at.inside;
  place = at.place;
  pair = ap (λ xs. get_or xs k (0, 0)) (pieces-more f n) ∙ get_or_append_left (pieces f n) (f n) (0, 0) k h ∙ at.pair;
}

in_piece : (f : ℕ → List (ℕ × ℕ)) (n k : ℕ) → k < length (pieces f n) → IsInPiece f n k
in_piece f zero k h = absurd (omega arith)
in_piece f (suc n) k h = elim (cases_lt k (length (pieces f n))) [
  | inl before ↦ later f n k (in_piece f n k before) before
  | inr past ↦
      let offset : ℕ = k - length (pieces f n) in
      let there : k ≡ length (pieces f n) + offset = omega arith in
      record {
        piece = n;
        offset = offset;
        earlier = omega arith;
        inside = omega (arith, length-pieces-more f n);
        place = there;
        pair = ap (λ xs. get_or xs k (0, 0)) (pieces-more f n) ∙ ap (λ i. get_or (pieces f n ++ f n) i (0, 0)) there ∙ get_or-append-add (pieces f n) (f n) offset (0, 0);
      }
]

-- the place of an offset of a piece
at_piece : (f : ℕ → List (ℕ × ℕ)) (n j i : ℕ) → j < n → i < length (f j) → (length (pieces f j) + i < length (pieces f n)) × (get_or (pieces f n) (length (pieces f j) + i) (0, 0) ≡ get_or (f j) i (0, 0))
at_piece f zero j i h inside = absurd (omega arith)
at_piece f (suc n) j i h inside = elim (cases_lt j n) [
  | inl before ↦
      let rec = at_piece f n j i before inside in
      (omega (arith, length-pieces-more f n, rec.0), ap (λ xs. get_or xs (length (pieces f j) + i) (0, 0)) (pieces-more f n) ∙ get_or_append_left (pieces f n) (f n) (0, 0) (length (pieces f j) + i) rec.0 ∙ rec.1)
  | inr past ↦
      let same : j ≡ n = omega arith in
      subst (λ (m : ℕ). i < length (f m) → (length (pieces f m) + i < length (pieces f (suc n))) × (get_or (pieces f (suc n)) (length (pieces f m) + i) (0, 0) ≡ get_or (f m) i (0, 0))) (sym same)
      (λ within. (omega (arith, length-pieces-more f n), ap (λ xs. get_or xs (length (pieces f n) + i) (0, 0)) (pieces-more f n) ∙ get_or-append-add (pieces f n) (f n) i (0, 0))) inside
]

-- column j has the pairs (0, j) to (j - 1, j)
abbrev column : ℕ → List (ℕ × ℕ)
column j = map (λ i. (i, j)) (points j)

length-column : (j : ℕ) → length (column j) ≡ j
length-column j = length-map-range_with_len {X = ℕ × ℕ} (λ i. (i, j)) 0 j

get_or-column : (i j : ℕ) → i < j → get_or (column j) i (0, 0) ≡ (i, j)
get_or-column i j h = get_or-map-range_with_len {X = ℕ × ℕ} (λ x. (x, j)) 0 j i i (0, 0) h (omega arith)

pub length-column_pairs-more : (n : ℕ) → length (column_pairs (suc n)) ≡ length (column_pairs n) + n
length-column_pairs-more n = length-pieces-more column n ∙ ap (λ m. length (column_pairs n) + m) (length-column n)

pub column_pairs-at : (n i j : ℕ) → i < j → j < n → (column_place i j < length (column_pairs n)) × (pair_at (column_pairs n) (column_place i j) ≡ (i, j))
column_pairs-at n i j h l =
    let inside : i < length (column j) = omega (arith, length-column j) in
    let at = at_piece column n j i l inside in
    (at.0, at.1 ∙ get_or-column i j h)

-- each place is that of a pair i below j
pub record IsColumnPlace (n k : ℕ) : Type 0 where
  pub i : ℕ
  pub j : ℕ
  pub below : i < j
  pub within : j < n
  pub place : k ≡ column_place i j
  pub pair : pair_at (column_pairs n) k ≡ (i, j)

pub column_pairs-all : (n k : ℕ) → k < length (column_pairs n) → IsColumnPlace n k
column_pairs-all n k h =
    let at = in_piece column n k h in
    let below : at.offset < at.piece = omega (arith, at.inside, length-column at.piece) in
    record {
      i = at.offset;
      j = at.piece;
      below = below;
      within = at.earlier;
      place = at.place;
      pair = at.pair ∙ get_or-column at.offset at.piece below;
    }

-- row i of the n rows has the pairs (i, 0) to (i, n - 1)
abbrev row : ℕ → ℕ → List (ℕ × ℕ)
row n i = map (λ j. (i, j)) (points n)

length-row : (n i : ℕ) → length (row n i) ≡ n
length-row n i = length-map-range_with_len {X = ℕ × ℕ} (λ j. (i, j)) 0 n

get_or-row : (n i j : ℕ) → j < n → get_or (row n i) j (0, 0) ≡ (i, j)
get_or-row n i j h = get_or-map-range_with_len {X = ℕ × ℕ} (λ y. (i, y)) 0 n j j (0, 0) h (omega arith)

length-rows : (n m : ℕ) → length (pieces (row n) m) ≡ m * n
length-rows n zero = omega arith
length-rows n (suc m) = length-pieces-more (row n) m ∙ omega (arith, length-rows n m, length-row n m)

pub length-row_pairs : (n : ℕ) → length (row_pairs n) ≡ n * n
length-row_pairs n = length-rows n n

pub row_pairs-at : (n i j : ℕ) → i < n → j < n → (i * n + j < length (row_pairs n)) × (pair_at (row_pairs n) (i * n + j) ≡ (i, j))
row_pairs-at n i j h l =
    let inside : j < length (row n i) = omega (arith, length-row n i) in
    let at = at_piece (row n) n i j h inside in
    let start = length-rows n i in
    (subst (λ (m : ℕ). m + j < length (row_pairs n)) start at.0, subst (λ (m : ℕ). pair_at (row_pairs n) (m + j) ≡ get_or (row n i) j (0, 0)) start at.1 ∙ get_or-row n i j l)

pub record IsRowPlace (n k : ℕ) : Type 0 where
  pub i : ℕ
  pub j : ℕ
  pub row : i < n
  pub column : j < n
  pub place : k ≡ i * n + j
  pub pair : pair_at (row_pairs n) k ≡ (i, j)

pub row_pairs-all : (n k : ℕ) → k < length (row_pairs n) → IsRowPlace n k
row_pairs-all n k h =
    let at = in_piece (row n) n k h in
    let below : at.offset < n = omega (arith, at.inside, length-row n at.piece) in
    record {
      i = at.piece;
      j = at.offset;
      row = at.earlier;
      column = below;
      place = at.place ∙ ap (λ m. m + at.offset) (length-rows n at.piece);
      pair = at.pair ∙ get_or-row n at.piece at.offset below;
    }

twice : (m c d : ℕ) → 2 * c ≡ m * (m - 1) → d ≡ c + m → 2 * d ≡ suc m * (suc m - 1)
twice zero c d e f = omega arith
twice (suc m) c d e f =
    let before : suc m - 1 ≡ m = omega arith in
    let after : suc (suc m) - 1 ≡ suc m = omega arith in
    let rec : 2 * c ≡ suc m * m = e ∙ ap (λ t. suc m * t) before in
    let goal : 2 * d ≡ suc (suc m) * suc m = omega arith in
    goal ∙ ap (λ t. suc (suc m) * t) (sym after)

-- twice the number of the pairs
pub length-column_pairs : (n : ℕ) → 2 * length (column_pairs n) ≡ n * (n - 1)
length-column_pairs zero = omega arith
length-column_pairs (suc n) = twice n (length (column_pairs n)) (length (column_pairs (suc n))) (length-column_pairs n) (length-column_pairs-more n)
