-- What the loop over the rows of a matrix has done so far.
use Rattle.std.proofs.Common.{◌≡◌, ◌≢◌, ℕ, suc, ◌+◌, ◌-◌, ◌<◌, ◌≤◌, ◌^◌, List, [], ◌∷◌, ◌++◌, length, drop, get_or, Option, Some, None, refl, sym, ap, ◌∙◌, arith, inl, inr, length-drop, add-zero}
use Rattle.std.specs.Prelude.{All, slice_get}
use Rattle.std.specs.List.{flat_map, range_with_len}
use Rattle.std.specs.Option.{option_or}
use Rattle.std.proofs.lemmas.Bool.{cases_lt}
use Rattle.std.proofs.lemmas.List.{drop-drop, get_or-drop}
use Rattle.std.proofs.lemmas.List.Elements.{All-head, All-rest, All-same}
use Rattle.std.proofs.lemmas.Option.{slice_get_past, slice_get-get_or}
use Rattle.text_lines.specs.Part.{Part}
use Rattle.pair_colours.specs.Colouring.{PairColouring, IsColouring, colour_at, points}
use Rattle.pair_colours.specs.Tests.{first_that_holds}
use Rattle.pair_colours.proofs.TestLemmas.{first_that_holds-append}
use Rattle.relation_text.specs.declared.faults.RelationWord.{RelationWord}
use Rattle.relation_text.specs.declared.faults.RelationWord.TheVariants.{MatrixCount}
use Rattle.relation_text.specs.Lines.{end_of}
use Rattle.relation_text.specs.Faults.{row_tests, head_tests, matrix_tests}
use Rattle.relation_text.specs.LineColours.{no_part, cell_of, cell, size_in}

-- the first fault of the rows from row x on
abbrev pub rows_fault : ℕ → ℕ → List Part → ℕ → Option (RelationWord × ℕ)
rows_fault len n rows x = first_that_holds (flat_map (λ u. row_tests len n (slice_get rows u)) (range_with_len x (n - x)))

-- x rows are read, and `left` are left
pub record ReadsRows (len n : ℕ) (rows : List Part) (C : PairColouring) (x : ℕ) (left : List Part) : Type 0 where
  pub colouring : IsColouring C
  pub rest : left ≡ drop x rows
  pub tests : rows_fault len n rows 0 ≡ rows_fault len n rows x
  pub within : All (λ row. end_of row < 2 ^ 31) left
  pub points : C.size ≡ n
  pub cells : (u v : ℕ) → u < x → v < n → colour_at C u v ≡ cell rows u v

pub ReadsRows-none : (len n : ℕ) (rows : List Part) (C : PairColouring) → IsColouring C → All (λ row. end_of row < 2 ^ 31) rows → C.size ≡ n → ReadsRows len n rows C 0 rows
ReadsRows-none len n rows C colouring within points = record { colouring = colouring; rest = refl; tests = refl; within = within; points = points; cells = λ u v h l. absurd (omega arith) }

-- the tests of row x come first of those that are left
rows_fault-first : (len n : ℕ) (rows : List Part) (x : ℕ) → x < n → rows_fault len n rows x
    ≡ first_that_holds (row_tests len n (slice_get rows x) ++ flat_map (λ u. row_tests len n (slice_get rows u)) (range_with_len (x + 1) (n - (x + 1))))
rows_fault-first len n rows x h = let more : n - x ≡ suc (n - (x + 1)) = omega arith in ap (λ m. first_that_holds (flat_map (λ u. row_tests len n (slice_get rows u)) (range_with_len x m))) more

-- there is no such row
pub rows_fault-few : (len n : ℕ) (rows : List Part) (C : PairColouring) (x : ℕ) (left : List Part) → ReadsRows len n rows C x left → left ≡ [] → x < n → rows_fault len n rows 0 ≡ Some (MatrixCount, len)
rows_fault-few len n rows C x left so_far e h =
    let past : length rows ≤ x = omega (arith, ap length (sym so_far.rest ∙ e), length-drop x rows) in
    so_far.tests ∙ rows_fault-first len n rows x h ∙ ap (λ o. first_that_holds (row_tests len n o ++ flat_map (λ u. row_tests len n (slice_get rows u)) (range_with_len (x + 1) (n - (x + 1))))) (slice_get_past rows x past)

-- the first of the rows that are left
pub record HasRow (rows : List Part) (x : ℕ) (row : Part) : Type 0 where
  pub at : slice_get rows x ≡ Some row
  pub cells : (v : ℕ) → cell rows x v ≡ cell_of row v
  pub within : end_of row < 2 ^ 31

pub has_row : (len n : ℕ) (rows : List Part) (C : PairColouring) (x : ℕ) (left more : List Part) (row : Part) → ReadsRows len n rows C x left → left ≡ row ∷ more → HasRow rows x row
has_row len n rows C x left more row so_far e =
    let there : drop x rows ≡ row ∷ more = sym so_far.rest ∙ e in
    let inside : x < length rows = omega (arith, ap length there, length-drop x rows) in
    let same : get_or rows x no_part ≡ row = ap (λ k. get_or rows k no_part) (sym (add-zero x)) ∙ sym (get_or-drop x rows 0 no_part) ∙ ap (λ ps. get_or ps 0 no_part) there in
    record {
      at = slice_get-get_or rows x no_part inside ∙ ap (λ p. Some p) same;
      cells = λ v. ap (λ p. cell_of p v) same;
      within = All-head (λ p. end_of p < 2 ^ 31) row more (All-same (λ p. end_of p < 2 ^ 31) (row ∷ more) left (sym e) so_far.within);
    }

-- that row has a fault
pub rows_fault-here : (len n : ℕ) (rows : List Part) (C : PairColouring) (x : ℕ) (left more : List Part) (row : Part) (fault : RelationWord × ℕ) → ReadsRows len n rows C x left → left ≡ row ∷ more → x < n
    → Some fault ≡ first_that_holds (row_tests 0 n (Some row)) → rows_fault len n rows 0 ≡ Some fault
rows_fault-here len n rows C x left more row fault so_far e h is =
    let has = has_row len n rows C x left more row so_far e in
    let later = flat_map (λ u. row_tests len n (slice_get rows u)) (range_with_len (x + 1) (n - (x + 1))) in
    so_far.tests ∙ rows_fault-first len n rows x h ∙ ap (λ o. first_that_holds (row_tests len n o ++ later)) has.at
    ∙ first_that_holds-append (row_tests len n (Some row)) later ∙ ap (λ o. option_or o (first_that_holds later)) (sym is)

-- that row is read
pub ReadsRows-more : (len n : ℕ) (rows : List Part) (C D : PairColouring) (x : ℕ) (left more : List Part) (row : Part) → ReadsRows len n rows C x left → left ≡ row ∷ more → x < n
    → first_that_holds (row_tests 0 n (Some row)) ≡ None → IsColouring D → D.size ≡ n → ((v : ℕ) → v < n → colour_at D x v ≡ cell_of row v)
    → ((u v : ℕ) → u < n → v < n → u ≢ x → colour_at D u v ≡ colour_at C u v) → ReadsRows len n rows D (x + 1) more
ReadsRows-more len n rows C D x left more row so_far e h none colouring points here others =
    let has = has_row len n rows C x left more row so_far e in
    let later = flat_map (λ u. row_tests len n (slice_get rows u)) (range_with_len (x + 1) (n - (x + 1))) in
    record {
      colouring = colouring;
      rest = ap (drop 1) (sym e ∙ so_far.rest) ∙ drop-drop 1 x rows;
      tests = so_far.tests ∙ rows_fault-first len n rows x h ∙ ap (λ o. first_that_holds (row_tests len n o ++ later)) has.at ∙ first_that_holds-append (row_tests len n (Some row)) later
          ∙ ap (λ o. option_or o (first_that_holds later)) none;
      within = All-rest (λ p. end_of p < 2 ^ 31) row more left e so_far.within;
      points = points;
      cells = λ u v a b. elim (cases_lt u x) [
        | inl before ↦ others u v (omega arith) b (λ same. omega arith) ∙ so_far.cells u v before b
        | inr at ↦ let same : u ≡ x = omega arith in rw same (here v b ∙ sym (has.cells v))
      ];
    }

pub matrix_fault-rows : (len : ℕ) (head : Part) (rows : List Part) (n : ℕ) → first_that_holds (head_tests head) ≡ None → n ≡ size_in head → first_that_holds (matrix_tests len head rows) ≡ rows_fault len n rows 0
matrix_fault-rows len head rows n none size =
    let whole : n ≡ n - 0 = omega arith in
    let behind = flat_map (λ x. row_tests len (size_in head) (slice_get rows x)) (points (size_in head)) in
    first_that_holds-append (head_tests head) behind ∙ ap (λ o. option_or o (first_that_holds behind)) none
    ∙ ap (λ m. first_that_holds (flat_map (λ x. row_tests len m (slice_get rows x)) (points m))) (sym size)
    ∙ ap (λ m. first_that_holds (flat_map (λ x. row_tests len n (slice_get rows x)) (points m))) whole
