-- Rows of numbers where rows are to come, and back.
use Rattle.std.proofs.Common.{◌≡◌, ℕ, zero, suc, ◌+◌, ◌*◌, ◌≤◌, List, [], ◌∷◌, ◌++◌, length, take, drop, Option, Some, None, refl, sym, ap, ◌∙◌, arith, inl, inr}
use Rattle.std.specs.List.{AllByRecursion}
use Rattle.std.proofs.lemmas.Bool.{cases_Bool}
use Rattle.std.proofs.lemmas.List.{length-append}
use Rattle.text_lines.specs.Joined.{spaced}
use Rattle.text_lines.specs.LineNumbers.{numbers_on}
use Rattle.text_lines.proofs.RowLines.{rows_of, row_good, row_back, cut_row, front_of, behind_of}
use Rattle.pair_colours.specs.declared.coloured_pairs.TheConstants.{MOST_COLOUR}
use Rattle.pair_colours.proofs.ListLemmas.{Each-append}
use Rattle.trace_text.specs.declared.trace_faults.TraceWord.{TraceWord}
use Rattle.trace_text.specs.declared.trace_faults.TraceWord.TheVariants.{Row}
use Rattle.trace_text.specs.TraceFault.{Place, is_row_line, fault_from}
use Rattle.trace_text.proofs.RowPlaces.{AreRowPlaces}

-- a fault
abbrev pub some_fault : ℕ × TraceWord → Option (ℕ × TraceWord)
some_fault fault = Some fault

-- lines begin with k rows of n numbers, and the lines after them have no fault
pub record BeginWithRows (n : ℕ) (place : ℕ → Place) (k line : ℕ) (lines : List (List ℕ)) : Type 0 where
  pub numbers : List ℕ
  pub rest : List (List ℕ)
  pub count : length numbers ≡ k * n
  pub small : AllByRecursion (λ c. c ≤ MOST_COLOUR) numbers
  pub are : lines ≡ rows_of n k numbers ++ rest
  pub clean : fault_from (line + k) (place 0) rest ≡ None

module _ (n : ℕ) (place : ℕ → Place) (p : AreRowPlaces n place) where
  -- rows have no fault
  pub rows_good : (k line : ℕ) (numbers : List ℕ) (rest : List (List ℕ)) → 1 ≤ n → length numbers ≡ k * n
      → AllByRecursion (λ c. c ≤ MOST_COLOUR) numbers
      → fault_from line (place k) (rows_of n k numbers ++ rest) ≡ fault_from (line + k) (place 0) rest
  rows_good zero line numbers rest h e a = ap (λ l. fault_from l (place 0) rest) (omega arith)
  rows_good (suc k) line numbers rest h e a =
      let cut = cut_row MOST_COLOUR n k numbers e a in
      p.row k line (spaced (take n numbers)) (rows_of n k (drop n numbers) ++ rest) (row_good MOST_COLOUR n (take n numbers) (omega arith) h cut.count cut.small).0
      ∙ rows_good k (line + 1) (drop n numbers) rest h cut.others cut.rest
      ∙ ap (λ l. fault_from l (place 0) rest) (omega arith)

  -- and lines without a fault are rows, with other lines after them
  pub rows_back : (k line : ℕ) (lines : List (List ℕ)) → fault_from line (place k) lines ≡ None → BeginWithRows n place k line lines
  rows_back zero line lines e = record {
    numbers = [];
    rest = lines;
    count = omega arith;
    small = tt;
    are = refl;
    clean = ap (λ l. fault_from l (place 0) lines) (omega arith) ∙ e;
  }
  rows_back (suc k) line [] e =
      let fault : some_fault (line, Row) ≡ None = sym (p.early k line) ∙ e in
      absurd cc
  rows_back (suc k) line (bytes ∷ lines) e =
      let again = rows_back k (line + 1) lines in
      elim (cases_Bool (is_row_line n bytes)) [
        | inl t ↦
            let r = again (sym (p.row k line bytes lines t) ∙ e) in
            let own = row_back MOST_COLOUR n bytes t in
            record {
              numbers = numbers_on bytes ++ r.numbers;
              rest = r.rest;
              count = omega (arith, length-append (numbers_on bytes) r.numbers, own.count, r.count);
              small = Each-append (λ c. c ≤ MOST_COLOUR) (numbers_on bytes) r.numbers own.small r.small;
              are = λ i. (own.spelled ∙ ap spaced (sym (front_of n (numbers_on bytes) r.numbers own.count))) i
                  ∷ (r.are ∙ ap (λ l. rows_of n k l ++ r.rest) (sym (behind_of n (numbers_on bytes) r.numbers own.count))) i;
              clean = ap (λ l. fault_from l (place 0) r.rest) (omega arith) ∙ r.clean;
            }
        | inr f ↦
            let fault : some_fault (line, Row) ≡ None = sym (p.other k line bytes lines f) ∙ e in
            absurd cc
      ]
