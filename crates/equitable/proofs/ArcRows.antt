-- The rows of arcs as lines, and back.
use Rattle.std.proofs.Common.{◌≡◌, ℕ, zero, suc, ◌+◌, ◌*◌, ◌<◌, ◌≤◌, ◌^◌, true, cond, List, [], ◌∷◌, ◌++◌, length, take, drop, Some, None, refl, sym, ap, ◌∙◌, arith, inl, inr}
use Rattle.std.specs.List.{AllByRecursion}
use Rattle.std.proofs.lemmas.Bool.{cases_Bool}
use Rattle.std.proofs.lemmas.List.{length-append}
use Rattle.std.proofs.lemmas.List.Elements.{All-from_recursion, recursion_from_All}
use Rattle.text_lines.specs.Joined.{spaced}
use Rattle.pair_colours.specs.Colouring.{PairColouring, IsColouring}
use Rattle.pair_colours.specs.declared.coloured_pairs.TheConstants.{MOST_POINTS}
use Rattle.pair_colours.proofs.ListLemmas.{Each-weaker, Each-append}
use Rattle.text_lines.specs.LineNumbers.{is_row_to, numbers_on}
use Rattle.text_lines.proofs.RowLines.{row_good, row_back, rows_of, cut_row, front_of, behind_of}
use Rattle.equitable.specs.Arcs.{IsArcs}
use Rattle.equitable.specs.TextFault.{at_row, at_body, next_row, fault_from, fault_on}

-- arcs by their size and their numbers one by one
pub arcs_from : (C : PairColouring) → IsColouring C → C.size ≤ MOST_POINTS → AllByRecursion (λ colour. colour ≤ 1) C.colours → IsArcs C
arcs_from C c few small = record {
  fits = record {
    colouring = c;
    limit = few;
    numbers = All-from_recursion (λ colour. colour < 2 ^ 32) C.colours
        (Each-weaker (λ colour. colour ≤ 1) (λ colour. colour < 2 ^ 32) (λ colour l. omega (arith, l)) C.colours small);
  };
  bits = All-from_recursion (λ colour. colour ≤ 1) C.colours small;
}

pub arcs_each : (C : PairColouring) → IsArcs C → AllByRecursion (λ colour. colour ≤ 1) C.colours
arcs_each C r = recursion_from_All (λ colour. colour ≤ 1) C.colours r.bits

-- a row of arcs where one is expected
pub row_clean : (n k line : ℕ) (bytes : List ℕ) (rest : List (List ℕ)) → is_row_to 1 n bytes ≡ true
    → fault_from line (next_row n (suc k)) (bytes ∷ rest) ≡ fault_from (line + 1) (next_row n k) rest
row_clean n k line bytes rest t = ap (λ b. fault_on line (at_row n k) (cond b (Some (next_row n k)) None) (λ next. fault_from (line + 1) next rest)) t

-- rows of arcs have no fault
pub rows_clean : (n k line : ℕ) (numbers : List ℕ) (rest : List (List ℕ)) → 1 ≤ n → length numbers ≡ k * n → AllByRecursion (λ c. c ≤ 1) numbers
    → fault_from line (next_row n k) (rows_of n k numbers ++ rest) ≡ fault_from (line + k) (at_body n) rest
rows_clean n zero line numbers rest h e a = ap (λ l. fault_from l (at_body n) rest) (omega arith)
rows_clean n (suc k) line numbers rest h e a =
    let cut = cut_row 1 n k numbers e a in
    row_clean n k line (spaced (take n numbers)) (rows_of n k (drop n numbers) ++ rest) (row_good 1 n (take n numbers) (omega arith) h cut.count cut.small).0
    ∙ rows_clean n k (line + 1) (drop n numbers) rest h cut.others cut.rest
    ∙ ap (λ l. fault_from l (at_body n) rest) (omega arith)

-- and lines without a fault are rows of arcs, with other lines after them
pub record BeginWithRows (n k line : ℕ) (lines : List (List ℕ)) : Type 0 where
  pub numbers : List ℕ
  pub rest : List (List ℕ)
  pub count : length numbers ≡ k * n
  pub small : AllByRecursion (λ c. c ≤ 1) numbers
  pub are : lines ≡ rows_of n k numbers ++ rest
  pub clean : fault_from (line + k) (at_body n) rest ≡ None

pub rows_back : (n k line : ℕ) (lines : List (List ℕ)) → fault_from line (next_row n k) lines ≡ None → BeginWithRows n k line lines
rows_back n zero line lines e = record {
  numbers = [];
  rest = lines;
  count = omega arith;
  small = tt;
  are = refl;
  clean = ap (λ l. fault_from l (at_body n) lines) (omega arith) ∙ e;
}
rows_back n (suc k) line [] e = absurd cc
rows_back n (suc k) line (bytes ∷ lines) e =
    let again = rows_back n k (line + 1) lines in
    elim (cases_Bool (is_row_to 1 n bytes)) [
      | inl t ↦
          let r = again (sym (row_clean n k line bytes lines t) ∙ e) in
          let own = row_back 1 n bytes t in
          let numbers : List ℕ = numbers_on bytes ++ r.numbers in
          record {
            numbers = numbers;
            rest = r.rest;
            count = omega (arith, length-append (numbers_on bytes) r.numbers, own.count, r.count);
            small = Each-append (λ c. c ≤ 1) (numbers_on bytes) r.numbers own.small r.small;
            are = λ i. (own.spelled ∙ ap spaced (sym (front_of n (numbers_on bytes) r.numbers own.count))) i ∷ (r.are
                ∙ ap (λ l. rows_of n k l ++ r.rest) (sym (behind_of n (numbers_on bytes) r.numbers own.count))) i;
            clean = ap (λ l. fault_from l (at_body n) r.rest) (omega arith) ∙ r.clean;
          }
      | inr f ↦
          let none = sym (ap (λ b. fault_on line (at_row n k) (cond b (Some (next_row n k)) None) (λ next. fault_from (line + 1) next lines)) f) ∙ e in
          absurd cc
    ]
