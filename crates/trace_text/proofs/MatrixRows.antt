-- A matrix that is read row by row.
use Rattle.std.proofs.Common.{◌≡◌, ℕ, suc, ◌+◌, ◌*◌, ◌-◌, ◌<◌, ◌≤◌, true, cond, List, [], ◌∷◌, ◌++◌, length, take, Some, None, sym, ap, subst, ◌∙◌, arith}
use Rattle.std.specs.List.{AllByRecursion}
use Rattle.std.proofs.lemmas.List.{append_assoc, take_all, length-take-le}
use Rattle.std.proofs.lemmas.Nat.{mul-le}
use Rattle.text_lines.specs.Joined.{spaced}
use Rattle.pair_colours.specs.Colouring.{PairColouring, IsColouring, IsRawColouring}
use Rattle.pair_colours.specs.declared.coloured_pairs.TheConstants.{MOST_COLOUR, MOST_POINTS}
use Rattle.pair_colours.proofs.ListLemmas.{Each-append}
use Rattle.trace_text.specs.TraceFault.{is_row_line}
use Rattle.trace_text.specs.Reading.{rows_fault}
use Rattle.trace_text.proofs.RawNumbers.{raw_from}
use Rattle.text_lines.specs.Rows.{matrix_lines}
use Rattle.text_lines.specs.LineNumbers.{numbers_on}
use Rattle.text_lines.proofs.RowLines.{row_back, rows_of, rows_shown, rows_of-push}

-- the first x rows were read
pub record ReadsRows (n x line0 : ℕ) (lines0 : List (List ℕ)) (line : ℕ) (lines : List (List ℕ)) (c : PairColouring) : Type 0 where
  pub size : c.size ≡ n
  pub colouring : IsColouring c
  pub faults : rows_fault n n line0 lines0 ≡ rows_fault n (n - x) line lines
  pub rows : lines0 ≡ rows_of n x (take (x * n) c.colours) ++ lines
  pub small : AllByRecursion (λ k. k ≤ MOST_COLOUR) (take (x * n) c.colours)
  pub number : line ≡ line0 + x

-- the next line is a row or not
rows_fault-next : (n x line : ℕ) (lines : List (List ℕ)) → x < n → rows_fault n (n - x) line lines ≡ rows_fault n (suc (n - (x + 1))) line lines
rows_fault-next n x line lines h = let more : n - x ≡ suc (n - (x + 1)) = omega (arith, h) in ap (λ m. rows_fault n m line lines) more

pub rows_more : (n x line0 : ℕ) (lines0 : List (List ℕ)) (line : ℕ) (lines rest : List (List ℕ)) (row : List ℕ) (c d : PairColouring) → ReadsRows n x line0 lines0 line lines c → x < n → lines ≡ row ∷ rest → is_row_line n row ≡ true
    → d.size ≡ n → IsColouring d → take (x * n + n) d.colours ≡ take (x * n) c.colours ++ numbers_on row → (next : ℕ) → next ≡ line + 1 → ReadsRows n (x + 1) line0 lines0 next rest d
rows_more n x line0 lines0 line lines rest row c d r h e good size colouring taken next after =
    let back = row_back MOST_COLOUR n row good in
    let same : (x + 1) * n ≡ x * n + n = omega arith in
    let colours : take ((x + 1) * n) d.colours ≡ take (x * n) c.colours ++ numbers_on row = ap (λ k. take k d.colours) same ∙ taken in
    let room : x * n ≤ length c.colours = omega (arith, mul-le x n n n (omega (arith, h)) (omega arith), r.colouring.has_pairs ∙ ap (λ k. k * k) r.size) in
    record {
      size = size;
      colouring = colouring;
      faults = r.faults ∙ rows_fault-next n x line lines h ∙ ap (rows_fault n (suc (n - (x + 1))) line) e
          ∙ ap (λ b. cond b (rows_fault n (n - (x + 1)) (line + 1) rest) (Some line)) good ∙ ap (λ l. rows_fault n (n - (x + 1)) l rest) (sym after);
      rows = r.rows ∙ ap (λ l. rows_of n x (take (x * n) c.colours) ++ l) (e ∙ ap (λ l. l ∷ rest) back.spelled)
          ∙ sym (append_assoc (rows_of n x (take (x * n) c.colours)) (spaced (numbers_on row) ∷ []) rest)
          ∙ ap (λ l. l ++ rest) (sym (ap (rows_of n (x + 1)) colours ∙ rows_of-push n x (take (x * n) c.colours) (numbers_on row) (length-take-le (x * n) c.colours room) back.count));
      small = subst (AllByRecursion (λ k. k ≤ MOST_COLOUR)) (sym colours) (Each-append (λ k. k ≤ MOST_COLOUR) (take (x * n) c.colours) (numbers_on row) r.small back.small);
      number = after ∙ ap (λ l. l + 1) r.number ∙ omega arith;
    }

-- all rows
pub record ReadsMatrix (n line0 : ℕ) (lines0 : List (List ℕ)) (line : ℕ) (lines : List (List ℕ)) (c : PairColouring) : Type 0 where
  pub rows : lines0 ≡ matrix_lines c ++ lines
  pub points : c.size ≡ n
  pub raw : IsRawColouring c
  pub clean : rows_fault n n line0 lines0 ≡ None
  pub number : line ≡ line0 + n

pub rows_all : (n x line0 : ℕ) (lines0 : List (List ℕ)) (line : ℕ) (lines : List (List ℕ)) (c : PairColouring) → n ≤ MOST_POINTS → ReadsRows n x line0 lines0 line lines c → x ≡ n → ReadsMatrix n line0 lines0 line lines c
rows_all n x line0 lines0 line lines c few r e =
    let all : take (x * n) c.colours ≡ c.colours = take_all (x * n) c.colours (omega (arith, r.colouring.has_pairs ∙ ap (λ k. k * k) r.size, ap (λ k. k * n) e)) in
    let none : n - x ≡ 0 = omega (arith, e) in
    record {
      rows = r.rows ∙ ap (λ l. l ++ lines) (ap (rows_of n x) all ∙ (λ i. rows_of (sym r.size i) ((e ∙ sym r.size) i) c.colours) ∙ sym (rows_shown c r.colouring));
      points = r.size;
      raw = raw_from c r.colouring (omega (arith, r.size, few)) (subst (AllByRecursion (λ k. k ≤ MOST_COLOUR)) all r.small);
      clean = r.faults ∙ ap (λ m. rows_fault n m line lines) none;
      number = r.number ∙ ap (λ k. line0 + k) e;
    }
