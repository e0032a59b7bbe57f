-- Rows of arcs that are compared with those of the first points of the cells.
use Rattle.std.proofs.Common.{◌≡◌, ◌==◌, ◌&&◌, ℕ, ◌+◌, ◌<◌, ◌≤◌, Bool, true, false, List, length, get_or, set, replicate, count_by, ⊎_elim, refl, sym, ap, subst, ◌∙◌, arith}
use Rattle.std.specs.List.{position_or_len}
use Rattle.std.proofs.lemmas.Bool.{cases_lt, eqb-true}
use Rattle.std.proofs.lemmas.Bool.{cases_eq, eq-eqb, ne_eqb, eqb-false}
use Rattle.std.proofs.lemmas.List.{get_or_default, length-set, length-replicate, get_or-replicate, get_or-set_other, get_or-set_same}
use Rattle.std.proofs.lemmas.List.Sums.{passes_at_first, fails_before_first}
use Rattle.pair_colours.proofs.Counts.{unit_of, count_more}
use Rattle.pair_colours.specs.Colouring.{PairColouring, colour_at, points}
use Rattle.equitable.specs.Equitable.{IsEquitable, arcs_into, cell_count}
use Rattle.equitable.specs.CellSplit.{IsAllowed}
use Rattle.equitable.specs.Cells.{UsesBelow, FitsCells}
use Rattle.equitable.proofs.Existing.{equitable_below, allowed_from}

-- one point more is counted, where its test is known
count_step : (p : ℕ → Bool) (z old new : ℕ) (b : Bool) → b ≡ p z → old ≡ count_by p (points z) → new ≡ old + unit_of b → new ≡ count_by p (points (z + 1))
count_step p z old new b is before after = count_more p z old new before (after ∙ ap (λ t. old + unit_of t) is)

-- the first point of a cell
abbrev pub first_of : List ℕ → ℕ → ℕ
first_of W c = position_or_len (λ other. other == c) W

-- the first point of the cell of x is in that cell
pub first_inside : (W : List ℕ) (x : ℕ) → x < length W → (first_of W (get_or W x 0) < length W) × (get_or W (first_of W (get_or W x 0)) 0 ≡ get_or W x 0)
first_inside W x l =
    let c : ℕ = get_or W x 0 in
    let inside : first_of W c < length W = ⊎_elim
    (λ (h : first_of W c < length W). h)
    (λ (h : length W ≤ first_of W c). absurd (eqb-false (get_or W x 0) c (fails_before_first (λ other. other == c) W x 0 (omega (arith, l, h))) refl))
    (cases_lt (first_of W c) (length W)) in
    (inside, eqb-true _ c (passes_at_first (λ other. other == c) W 0 inside))

-- from each point below m as many arcs lead into each cell as from the first point of its cell
pub record AgreeBefore (G : PairColouring) (W : List ℕ) (count m : ℕ) : Type 0 where
  pub agree : (x : ℕ) → x < m → (c : ℕ) → c < count → arcs_into G W x c ≡ arcs_into G W (first_of W (get_or W x 0)) c

-- one point more
pub agree_more : (G : PairColouring) (W row home : List ℕ) (count x first : ℕ) → AgreeBefore G W count x → first ≡ first_of W (get_or W x 0)
    → length row ≡ count → ((k : ℕ) → k < length row → get_or row k 0 ≡ get_or home k 0)
    → ((c : ℕ) → c < count → get_or row c 0 ≡ arcs_into G W x c) → ((c : ℕ) → c < count → get_or home c 0 ≡ arcs_into G W first c)
    → AgreeBefore G W count (x + 1)
agree_more G W row home count x first before is len same own other = record {
  agree = λ y l c lc. ⊎_elim
      (λ (low : y < x). before.agree y low c lc)
      (λ (high : x ≤ y).
      let e : x ≡ y = omega (arith, l, high) in
      subst (λ z. arcs_into G W z c ≡ arcs_into G W (first_of W (get_or W z 0)) c) e
      (sym (own c lc) ∙ same c (omega (arith, lc, len)) ∙ other c lc ∙ ap (λ f. arcs_into G W f c) is))
      (cases_lt y x);
}

-- all points
pub agree_all : (G : PairColouring) (W : List ℕ) (count m : ℕ) → length W ≡ G.size → UsesBelow W count → AgreeBefore G W count m → G.size ≤ m
    → IsEquitable G W
agree_all G W count m len h a l =
    equitable_below G W count len h.below
    (λ x hx y hy e c lc.
    a.agree x (omega (arith, hx, l)) c lc
    ∙ ap (λ v. arcs_into G W (first_of W v) c) e
    ∙ sym (a.agree y (omega (arith, hy, l)) c lc))

-- two rows that differ make a step
pub odd_from_rows : (G : PairColouring) (W row home : List ℕ) (count x first into : ℕ) → length W ≡ G.size → UsesBelow W count → x < G.size
    → first ≡ first_of W (get_or W x 0)
    → length row ≡ count → into < length row → (get_or row into 0 ≡ get_or home into 0 → ⊥)
    → ((c : ℕ) → c < count → get_or row c 0 ≡ arcs_into G W x c) → ((c : ℕ) → c < count → get_or home c 0 ≡ arcs_into G W first c)
    → IsAllowed G W (record { cell = get_or W x 0; into = into })
odd_from_rows G W row home count x first into len h hx is room low ne own other =
    let lc : into < count = omega (arith, low, room) in
    let f = first_inside W x (omega (arith, hx, len)) in
    allowed_from G W count len h x (first_of W (get_or W x 0)) into hx (omega (arith, f.0, len)) lc (sym f.1)
    (λ e. ne (own into lc ∙ e ∙ ap (λ z. arcs_into G W z into) (sym is) ∙ sym (other into lc)))

-- the row of x, counted over the points below z
pub record RowTo (G : PairColouring) (W : List ℕ) (x count z : ℕ) (row : List ℕ) : Type 0 where
  pub room : length row ≡ count
  pub counted : (c : ℕ) → c < count → get_or row c 0 ≡ count_by (λ y. (colour_at G x y == 1) && (get_or W y 0 == c)) (points z)
  pub few : (c : ℕ) → c < count → get_or row c 0 ≤ z

pub row_start : (G : PairColouring) (W row : List ℕ) (x count : ℕ) → row ≡ replicate count 0 → RowTo G W x count 0 row
row_start G W row x count e = record {
  room = ap length e ∙ length-replicate {A = ℕ} count 0;
  counted = λ c l. ap (λ r. get_or r c 0) e ∙ get_or-replicate {A = ℕ} count c 0 0 l;
  few = λ c l. omega (arith, ap (λ r. get_or r c 0) e, get_or-replicate {A = ℕ} count c 0 0 l);
}

test_yes : (G : PairColouring) (W : List ℕ) (x z c : ℕ) → colour_at G x z ≡ 1 → ((colour_at G x z == 1) && (get_or W z 0 == c)) ≡ (get_or W z 0 == c)
test_yes G W x z c e = ap (λ b. b && (get_or W z 0 == c)) (eq-eqb (colour_at G x z) 1 e)

test_no : (G : PairColouring) (W : List ℕ) (x z c : ℕ) → (colour_at G x z ≡ 1 → ⊥) → false ≡ ((colour_at G x z == 1) && (get_or W z 0 == c))
test_no G W x z c ne = sym (ap (λ b. b && (get_or W z 0 == c)) (ne_eqb (colour_at G x z) 1 ne))

-- one arc more
pub row_yes : (G : PairColouring) (W row new : List ℕ) (x count z cell : ℕ) → RowTo G W x count z row → colour_at G x z ≡ 1 → cell ≡ get_or W z 0
    → cell < count
    → new ≡ set row cell (get_or row cell 0 + 1) → RowTo G W x count (z + 1) new
row_yes G W row new x count z cell r e is low s = record {
  room = ap length s ∙ length-set row cell (get_or row cell 0 + 1) ∙ r.room;
  counted = λ c l. ⊎_elim
      (λ (h : cell ≡ c).
      count_step (λ y. (colour_at G x y == 1) && (get_or W y 0 == c)) z (get_or row c 0) (get_or new c 0) true
      (sym (test_yes G W x z c e ∙ eq-eqb (get_or W z 0) c (sym is ∙ h))) (r.counted c l)
      (ap (λ n. get_or n c 0) s ∙ subst (λ k. get_or (set row cell (get_or row cell 0 + 1)) k 0 ≡ get_or row k 0 + 1) h (here low)))
      (λ (ne : cell ≡ c → ⊥).
      count_step (λ y. (colour_at G x y == 1) && (get_or W y 0 == c)) z (get_or row c 0) (get_or new c 0) false
      (sym (test_yes G W x z c e ∙ ne_eqb (get_or W z 0) c (λ f. ne (is ∙ f)))) (r.counted c l)
      (ap (λ n. get_or n c 0) s ∙ elsewhere c ne ∙ omega arith))
      (cases_eq cell c);
  few = λ c l. ⊎_elim
      (λ (h : cell ≡ c). let b = r.few cell low in let at : get_or new c 0 ≡ get_or row cell 0 + 1 = ap (λ n. get_or n c 0) s
      ∙ subst (λ k. get_or (set row cell (get_or row cell 0 + 1)) k 0 ≡ get_or row cell 0 + 1) h (here low) in omega (arith, b, at))
      (λ (ne : cell ≡ c → ⊥). let b = r.few c l in let at : get_or new c 0 ≡ get_or row c 0 = ap (λ n. get_or n c 0) s ∙ elsewhere c ne in
      omega (arith, b, at))
      (cases_eq cell c);
}
  where
    here : cell < count → get_or (set row cell (get_or row cell 0 + 1)) cell 0 ≡ get_or row cell 0 + 1
    here h = let inside : cell < length row = omega (arith, h, r.room) in get_or-set_same row cell (get_or row cell 0 + 1) 0 inside

    elsewhere : (c : ℕ) → (cell ≡ c → ⊥) → get_or (set row cell (get_or row cell 0 + 1)) c 0 ≡ get_or row c 0
    elsewhere c ne = get_or-set_other row cell c (get_or row cell 0 + 1) 0 (λ e. ne (sym e))

-- or a pair that is no arc
pub row_no : (G : PairColouring) (W row new : List ℕ) (x count z : ℕ) → RowTo G W x count z row → (colour_at G x z ≡ 1 → ⊥) → new ≡ row
    → RowTo G W x count (z + 1) new
row_no G W row new x count z r ne s = record {
  room = ap length s ∙ r.room;
  counted = λ c l.
      count_step (λ y. (colour_at G x y == 1) && (get_or W y 0 == c)) z (get_or row c 0) (get_or new c 0) false (sym (sym (test_no G W x z c ne)))
      (r.counted c l)
      (ap (λ n. get_or n c 0) s ∙ omega arith);
  few = λ c l. let b = r.few c l in let at : get_or new c 0 ≡ get_or row c 0 = ap (λ n. get_or n c 0) s in omega (arith, b, at);
}

-- the cells that the code hands on
pub fits_at : (now W : List ℕ) (count : ℕ) → W ≡ now → count ≡ cell_count now → FitsCells now (cell_count now) → FitsCells W count
fits_at now W count e n h = subst (λ V. FitsCells V count) (sym e) (subst (FitsCells now) (sym n) h)

pub all_below : (W : List ℕ) (count : ℕ) → FitsCells W count → (k d : ℕ) → k < length W → get_or W k d < count
all_below W count h k d l = omega (arith, get_or_default W k d 0 l, h.numbers.below k l)
