-- What the loops over the bits have done so far.
use Rattle.std.proofs.Common.{◌≡◌, ◌≢◌, ℕ, suc, ◌+◌, ◌-◌, ◌*◌, ◌/◌, ◌<◌, ◌≤◌, Bool, List, length, sym, ap, cond, ◌∙◌, arith, inl, inr}
use Rattle.std.proofs.lemmas.Bool.{cases_lt, ne_eqb}
use Rattle.std.proofs.lemmas.Nat.{mul-le}
use Rattle.pair_colours.specs.Colouring.{PairColouring, IsColouring, colour_at}
use Rattle.pair_colours.specs.declared.coloured_pairs.TheConstants.{MOST_POINTS}
use Rattle.relation_text.specs.Bits.{bit_in}
use Rattle.relation_text.specs.Orders.{column_pairs, column_place}
use Rattle.relation_text.specs.Relation.{pair_colour}
use Rattle.relation_text.proofs.OrderLemmas.{column_pairs-at, length-column_pairs, length-column_pairs-more}

-- the rows before row i are done, and row i up to column j
pub record ArcsTo (bytes : List ℕ) (C : PairColouring) (size i j : ℕ) : Type 0 where
  pub colouring : IsColouring C
  pub points : C.size ≡ size
  pub rows : (u v : ℕ) → u < i → v < size → colour_at C u v ≡ pair_colour u v (bit_in bytes (u * size + v))
  pub row : (v : ℕ) → v < j → v < size → colour_at C i v ≡ pair_colour i v (bit_in bytes (i * size + v))

-- one more pair
pub ArcsTo-more : (bytes : List ℕ) (C D : PairColouring) (size i j : ℕ) → ArcsTo bytes C size i j → i < size → j < size → IsColouring D → D.size ≡ size
    → colour_at D i j ≡ pair_colour i j (bit_in bytes (i * size + j))
    → ((u v : ℕ) → u < size → v < size → (u ≡ i → v ≢ j) → colour_at D u v ≡ colour_at C u v) → ArcsTo bytes D size i (j + 1)
ArcsTo-more bytes C D size i j so_far hi hj colouring points here others = record {
  colouring = colouring;
  points = points;
  rows = λ u v h l. others u v (omega arith) l (λ e. absurd (omega arith)) ∙ so_far.rows u v h l;
  row = λ v h l. elim (cases_lt v j) [
    | inl before ↦ others i v hi l (λ e f. omega arith) ∙ so_far.row v before l
    | inr at ↦ let same : v ≡ j = omega arith in rw same here
  ];
}

-- one more row
pub ArcsTo-next : (bytes : List ℕ) (C : PairColouring) (size i : ℕ) → ArcsTo bytes C size i size → ArcsTo bytes C size (i + 1) 0
ArcsTo-next bytes C size i so_far = record {
  colouring = so_far.colouring;
  points = so_far.points;
  rows = λ u v h l. elim (cases_lt u i) [
    | inl before ↦ so_far.rows u v before l
    | inr at ↦ let same : u ≡ i = omega arith in rw same (so_far.row v l l)
  ];
  row = λ v h l. absurd (omega arith);
}

-- the columns before column j are done, and column j up to row i; the diagonal is as it began, and k is the place of (i, j)
pub record EdgesTo (bytes : List ℕ) (C : PairColouring) (size k i j : ℕ) : Type 0 where
  pub colouring : IsColouring C
  pub points : C.size ≡ size
  pub place : k ≡ column_place i j
  pub diagonal : (u : ℕ) → u < size → colour_at C u u ≡ 0
  pub edge : (u v : ℕ) → u < v → v < j → v < size → colour_at C u v ≡ pair_colour u v (bit_in bytes (column_place u v))
  pub turned : (u v : ℕ) → u < v → v < j → v < size → colour_at C v u ≡ pair_colour v u (bit_in bytes (column_place u v))
  pub column_edge : (u : ℕ) → u < i → u < j → j < size → colour_at C u j ≡ pair_colour u j (bit_in bytes (column_place u j))
  pub column_turned : (u : ℕ) → u < i → u < j → j < size → colour_at C j u ≡ pair_colour j u (bit_in bytes (column_place u j))

pair_colour-apart : (i j : ℕ) (bit : Bool) → i ≢ j → pair_colour i j bit ≡ cond bit 1 2
pair_colour-apart i j bit h = ap (λ t. cond t (cond bit 3 0) (cond bit 1 2)) (ne_eqb i j h)

pub pair_colour-turned : (i j : ℕ) (bit : Bool) → i < j → pair_colour i j bit ≡ pair_colour j i bit
pair_colour-turned i j bit h = pair_colour-apart i j bit (λ e. omega arith) ∙ sym (pair_colour-apart j i bit (λ e. omega arith))

-- one more edge, in both directions
pub EdgesTo-more : (bytes : List ℕ) (C D E : PairColouring) (size k i j colour : ℕ) → EdgesTo bytes C size k i j → i < j → j < size → IsColouring E → D.size ≡ size → E.size ≡ size
    → colour ≡ pair_colour i j (bit_in bytes k) → colour_at D i j ≡ colour → colour_at E j i ≡ colour
    → ((u v : ℕ) → u < size → v < size → (u ≡ i → v ≢ j) → colour_at D u v ≡ colour_at C u v)
    → ((u v : ℕ) → u < size → v < size → (u ≡ j → v ≢ i) → colour_at E u v ≡ colour_at D u v) → EdgesTo bytes E size (k + 1) (i + 1) j
EdgesTo-more bytes C D E size k i j colour so_far hi hj colouring d points is first second others_first others =
    let place = so_far.place in
    let here : colour ≡ pair_colour i j (bit_in bytes (column_place i j)) = is ∙ ap (λ p. pair_colour i j (bit_in bytes p)) place in
    let kept : (u v : ℕ) → u < size → v < size → (u ≡ i → v ≢ j) → (u ≡ j → v ≢ i) → colour_at E u v ≡ colour_at C u v = λ u v h l a b. others u v h l b ∙ others_first u v h l a in
    record {
      colouring = colouring;
      points = points;
      place = omega arith;
      diagonal = λ u h. kept u u h h (λ e f. omega arith) (λ e f. omega arith) ∙ so_far.diagonal u h;
      edge = λ u v below before h. kept u v (omega arith) h (λ e f. omega arith) (λ e f. omega arith) ∙ so_far.edge u v below before h;
      turned = λ u v below before h. kept v u h (omega arith) (λ e f. omega arith) (λ e f. omega arith) ∙ so_far.turned u v below before h;
      column_edge = λ u h l m. elim (cases_lt u i) [
        | inl before ↦ kept u j (omega arith) m (λ e f. omega arith) (λ e f. omega arith) ∙ so_far.column_edge u before l m
        | inr at ↦ let same : u ≡ i = omega arith in rw same (others i j (omega arith) m (λ e f. omega arith) ∙ first ∙ here)
      ];
      column_turned = λ u h l m. elim (cases_lt u i) [
        | inl before ↦ kept j u m (omega arith) (λ e f. omega arith) (λ e f. omega arith) ∙ so_far.column_turned u before l m
        | inr at ↦ let same : u ≡ i = omega arith in rw same (second ∙ here ∙ pair_colour-turned i j (bit_in bytes (column_place i j)) hi)
      ];
    }

-- one more column
pub EdgesTo-next : (bytes : List ℕ) (C : PairColouring) (size k j : ℕ) → EdgesTo bytes C size k j j → j < size → EdgesTo bytes C size k 0 (j + 1)
EdgesTo-next bytes C size k j so_far hj =
    let place = so_far.place in
    let next : suc j ≡ j + 1 = omega arith in
    record {
      colouring = so_far.colouring;
      points = so_far.points;
      place = rw (← next) (omega (arith, length-column_pairs-more j));
      diagonal = so_far.diagonal;
      edge = λ u v below before h. elim (cases_lt v j) [
        | inl early ↦ so_far.edge u v below early h
        | inr at ↦ let same : v ≡ j = omega arith in rw same (so_far.column_edge u (omega arith) (omega arith) hj)
      ];
      turned = λ u v below before h. elim (cases_lt v j) [
        | inl early ↦ so_far.turned u v below early h
        | inr at ↦ let same : v ≡ j = omega arith in rw same (so_far.column_turned u (omega arith) (omega arith) hj)
      ];
      column_edge = λ u h l m. absurd (omega arith);
      column_turned = λ u h l m. absurd (omega arith);
    }

-- the place of a pair is within the bits
pub place_within : (size len k i j : ℕ) → k ≡ column_place i j → i < j → j < size → length (column_pairs size) ≤ 6 * len → k / 6 < len
place_within size len k i j e h l enough = let at = (column_pairs-at size i j h l).0 in omega arith

pub column_pairs-few : (size : ℕ) → size ≤ MOST_POINTS → length (column_pairs size) ≤ MOST_POINTS * MOST_POINTS
column_pairs-few size h = let count = length-column_pairs size in let square : size * (size - 1) ≤ MOST_POINTS * MOST_POINTS = mul-le size (size - 1) MOST_POINTS MOST_POINTS (omega arith) (omega arith) in omega arith

pub place_small : (size k i j : ℕ) → size ≤ MOST_POINTS → k ≡ column_place i j → i < j → j < size → k < MOST_POINTS * MOST_POINTS
place_small size k i j few e h l = let at = (column_pairs-at size i j h l).0 in let most = column_pairs-few size few in omega arith
