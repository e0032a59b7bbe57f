-- The rows of arcs that are read one by one.
use Rattle.std.proofs.Common.{◌≡◌, ℕ, suc, ◌+◌, ◌*◌, ◌-◌, ◌<◌, ◌≤◌, true, false, cond, List, [], ◌∷◌, ◌++◌, length, take, set, get_or, Some, None, refl, sym, ap, subst, ◌∙◌, arith}
use Rattle.std.specs.List.{AllByRecursion}
use Rattle.std.proofs.lemmas.List.{append_assoc, append-nil, take_all, take_more, take_more_set, length-set, length-take-le}
use Rattle.std.proofs.lemmas.Nat.{mul-le}
use Rattle.text_lines.specs.Joined.{spaced}
use Rattle.pair_colours.specs.Colouring.{PairColouring, IsColouring}
use Rattle.pair_colours.specs.declared.coloured_pairs.TheConstants.{MOST_POINTS}
use Rattle.pair_colours.proofs.ListLemmas.{Each-append}
use Rattle.pair_colours.proofs.Places.{place_below}
use Rattle.text_lines.specs.Rows.{matrix_lines}
use Rattle.text_lines.specs.LineNumbers.{is_row_to, numbers_on}
use Rattle.text_lines.proofs.RowLines.{row_back, rows_of, rows_shown, rows_of-push}
use Rattle.equitable.specs.declared.text_faults.CellWord.TheVariants.{Row}
use Rattle.equitable.specs.Arcs.{IsArcs}
use Rattle.equitable.specs.TextFault.{at_row, at_body, next_row, fault_from, fault_on}
use Rattle.equitable.proofs.ArcRows.{arcs_from, row_clean}

-- the first y numbers of row x were set
pub record SetsRow (old now : PairColouring) (x y : ℕ) (row : List ℕ) : Type 0 where
  pub size : now.size ≡ old.size
  pub pairs : length now.colours ≡ length old.colours
  pub set : take (x * old.size + y) now.colours ≡ take (x * old.size) old.colours ++ take y row

pub set_start : (old : PairColouring) (x : ℕ) (row : List ℕ) → SetsRow old old x 0 row
set_start old x row = record {
  size = refl;
  pairs = refl;
  set = ap (λ k. take k old.colours) (omega arith)
      ∙ sym (append-nil (take (x * old.size) old.colours));
}

pub set_more : (old now new : PairColouring) (x y colour : ℕ) (row : List ℕ) → SetsRow old now x y row → length old.colours ≡ old.size * old.size
    → x < old.size → y < old.size → length row ≡ old.size
    → colour ≡ get_or row y 0 → new.size ≡ now.size → new.colours ≡ set now.colours (x * now.size + y) colour → SetsRow old new x (y + 1) row
set_more old now new x y colour row r all hx hy len is size changed =
    let place : x * now.size + y ≡ x * old.size + y = ap (λ m. x * m + y) r.size in
    let at : x * old.size + (y + 1) ≡ (x * old.size + y) + 1 = omega arith in
    let inside : x * old.size + y < length now.colours = omega (arith, place_below old.size x y hx hy, r.pairs, all) in
    let written : new.colours ≡ set now.colours (x * old.size + y) colour = changed ∙ ap (λ p. set now.colours p colour) place in
    record {
      size = size ∙ r.size;
      pairs = ap length changed ∙ length-set now.colours (x * now.size + y) colour ∙ r.pairs;
      set = (λ i. take (at i) (written i))
          ∙ take_more_set now.colours (x * old.size + y) colour inside
          ∙ (λ i. r.set i ++ is i ∷ [])
          ∙ append_assoc (take (x * old.size) old.colours) (take y row) (get_or row y 0 ∷ [])
          ∙ ap (λ t. take (x * old.size) old.colours ++ t) (sym (take_more row y 0 (omega (arith, hy, len))));
    }

-- the first x rows were read
pub record ReadsRows (n x line0 : ℕ) (lines0 : List (List ℕ)) (line : ℕ) (lines : List (List ℕ)) (c : PairColouring) : Type 0 where
  pub size : c.size ≡ n
  pub colouring : IsColouring c
  pub faults : fault_from line0 (next_row n n) lines0 ≡ fault_from line (next_row n (n - x)) lines
  pub rows : lines0 ≡ rows_of n x (take (x * n) c.colours) ++ lines
  pub small : AllByRecursion (λ k. k ≤ 1) (take (x * n) c.colours)

pub rows_start : (n line : ℕ) (lines : List (List ℕ)) (c : PairColouring) → c.size ≡ n → IsColouring c → ReadsRows n 0 line lines line lines c
rows_start n line lines c size colouring = record {
  size = size;
  colouring = colouring;
  faults = ap (λ k. fault_from line (next_row n k) lines) (omega arith);
  rows = refl;
  small = subst (λ k. AllByRecursion (λ b. b ≤ 1) (take k c.colours)) zero_times tt;
}
  where
    zero_times : 0 ≡ 0 * n
    zero_times = omega arith

-- what is expected where fewer than n rows were read
next_is : (n x line : ℕ) (lines : List (List ℕ)) → x < n → fault_from line (next_row n (n - x)) lines ≡ fault_from line (next_row n (suc (n - (x + 1)))) lines
next_is n x line lines h = let more : n - x ≡ suc (n - (x + 1)) = omega (arith, h) in ap (λ m. fault_from line (next_row n m) lines) more

pub rows_more : (n x line0 : ℕ) (lines0 : List (List ℕ)) (line : ℕ) (lines rest : List (List ℕ)) (bytes row : List ℕ) (c d : PairColouring)
    → ReadsRows n x line0 lines0 line lines c → x < n
    → lines ≡ bytes ∷ rest → is_row_to 1 n bytes ≡ true → row ≡ numbers_on bytes → d.size ≡ c.size → length d.colours ≡ length c.colours
    → take (x * c.size + c.size) d.colours ≡ take (x * c.size) c.colours ++ row → (next : ℕ) → next ≡ line + 1 → ReadsRows n (x + 1) line0 lines0 next rest d
rows_more n x line0 lines0 line lines rest bytes row c d r h e good is size pairs taken next after =
    let back = row_back 1 n bytes good in
    let same : (x + 1) * n ≡ x * n + n = omega arith in
    let colours : take ((x + 1) * n) d.colours ≡ take (x * n) c.colours ++ numbers_on bytes =
    ap (λ k. take k d.colours) same ∙ subst (λ m. take (x * m + m) d.colours ≡ take (x * m) c.colours ++ row) r.size taken
    ∙ ap (λ t. take (x * n) c.colours ++ t) is in
    let room : x * n ≤ length c.colours = omega (arith, mul-le x n n n (omega (arith, h)) (omega arith), r.colouring.has_pairs ∙ ap (λ k. k * k) r.size) in
    record {
      size = size ∙ r.size;
      colouring = record { has_points = omega (arith, r.colouring.has_points, size); has_pairs = pairs ∙ r.colouring.has_pairs ∙ ap (λ k. k * k) (sym size) };
      faults = r.faults ∙ next_is n x line lines h ∙ ap (fault_from line (next_row n (suc (n - (x + 1))))) e
          ∙ row_clean n (n - (x + 1)) line bytes rest good ∙ ap (λ l. fault_from l (next_row n (n - (x + 1))) rest) (sym after);
      rows = r.rows ∙ ap (λ l. rows_of n x (take (x * n) c.colours) ++ l) (e ∙ ap (λ l. l ∷ rest) back.spelled)
          ∙ sym (append_assoc (rows_of n x (take (x * n) c.colours)) (spaced (numbers_on bytes) ∷ []) rest)
          ∙ ap (λ l. l ++ rest)
          (sym (ap (rows_of n (x + 1)) colours
          ∙ rows_of-push n x (take (x * n) c.colours) (numbers_on bytes) (length-take-le (x * n) c.colours room) back.count));
      small = subst (AllByRecursion (λ k. k ≤ 1)) (sym colours) (Each-append (λ k. k ≤ 1) (take (x * n) c.colours) (numbers_on bytes) r.small back.small);
    }

-- all rows
pub record ReadsArcs (n line0 : ℕ) (lines0 : List (List ℕ)) (line : ℕ) (lines : List (List ℕ)) (c : PairColouring) : Type 0 where
  pub rows : lines0 ≡ matrix_lines c ++ lines
  pub points : c.size ≡ n
  pub bits : IsArcs c
  pub clean : fault_from line0 (next_row n n) lines0 ≡ fault_from line (at_body n) lines

pub rows_all : (n x line0 : ℕ) (lines0 : List (List ℕ)) (line : ℕ) (lines : List (List ℕ)) (c : PairColouring) → n ≤ MOST_POINTS
    → ReadsRows n x line0 lines0 line lines c → x ≡ n → ReadsArcs n line0 lines0 line lines c
rows_all n x line0 lines0 line lines c few r e =
    let all : take (x * n) c.colours ≡ c.colours = take_all (x * n) c.colours
    (omega (arith, r.colouring.has_pairs ∙ ap (λ k. k * k) r.size, ap (λ k. k * n) e)) in
    let none : n - x ≡ 0 = omega (arith, e) in
    record {
      rows = r.rows ∙ ap (λ l. l ++ lines) (ap (rows_of n x) all ∙ (λ i. rows_of (sym r.size i) ((e ∙ sym r.size) i) c.colours)
          ∙ sym (rows_shown c r.colouring));
      points = r.size;
      bits = arcs_from c r.colouring (omega (arith, r.size, few)) (subst (AllByRecursion (λ k. k ≤ 1)) all r.small);
      clean = r.faults ∙ ap (λ m. fault_from line (next_row n m) lines) none;
    }

-- a row that is missing, and a line that is no row
pub row_missing : (n x line0 : ℕ) (lines0 : List (List ℕ)) (line : ℕ) (lines : List (List ℕ)) (c : PairColouring)
    → ReadsRows n x line0 lines0 line lines c → x < n → lines ≡ []
    → fault_from line0 (next_row n n) lines0 ≡ Some (line, Row)
row_missing n x line0 lines0 line lines c r h e = r.faults ∙ next_is n x line lines h ∙ ap (fault_from line (next_row n (suc (n - (x + 1))))) e

pub row_bad : (n x line0 : ℕ) (lines0 : List (List ℕ)) (line : ℕ) (lines rest : List (List ℕ)) (bytes : List ℕ) (c : PairColouring)
    → ReadsRows n x line0 lines0 line lines c → x < n
    → lines ≡ bytes ∷ rest → is_row_to 1 n bytes ≡ false → fault_from line0 (next_row n n) lines0 ≡ Some (line, Row)
row_bad n x line0 lines0 line lines rest bytes c r h e bad =
    let k : ℕ = n - (x + 1) in
    r.faults ∙ next_is n x line lines h ∙ ap (fault_from line (next_row n (suc k))) e
    ∙ ap (λ b. fault_on line (at_row n k) (cond b (Some (next_row n k)) None) (λ next. fault_from (line + 1) next rest)) bad

-- a whole row
pub set_all : (old now : PairColouring) (x y : ℕ) (row : List ℕ) → SetsRow old now x y row → y ≡ old.size → length row ≡ old.size
    → take (x * old.size + old.size) now.colours ≡ take (x * old.size) old.colours ++ row
set_all old now x y row r e len =
    ap (λ k. take (x * old.size + k) now.colours) (sym e) ∙ r.set ∙ ap (λ t. take (x * old.size) old.colours ++ t) (take_all y row (omega (arith, e, len)))
