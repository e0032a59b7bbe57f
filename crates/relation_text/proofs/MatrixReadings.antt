-- A matrix: where no test holds, its head line and its rows are those of a colouring, and only there.
use Rattle.std.proofs.Common.{◌≡◌, ℕ, zero, suc, ◌+◌, ◌<◌, ◌≤◌, false, List, ◌++◌, length, drop, get_or, Option, Some, None, refl, sym, ap, subst, ◌∙◌, arith, inl, inr}
use Rattle.std.specs.Prelude.{slice_get, unwrap_or, is_none, codes, decimal}
use Rattle.std.specs.List.{flat_map, range_with_len}
use Rattle.std.specs.Str.Parse.{digits_value}
use Rattle.std.proofs.lemmas.Bool.{cases_lt, eqb-false, ne_eqb, ltb-false, le-ltb, false≢true}
use Rattle.std.proofs.lemmas.Option.{slice_get-get_or, slice_get_within, get_or_from_slice_get, same_Some}
use Rattle.std.proofs.lemmas.List.{append_cancel_left}
use Rattle.std.proofs.lemmas.Fmt.{decimal_injective}
use Rattle.text_lines.specs.Part.{Part}
use Rattle.text_lines.specs.Words.{words_of}
use Rattle.text_lines.specs.Number.{number_of}
use Rattle.text_lines.proofs.Numbers.{number_of-form, form-number_of, IsNumberForm-unique}
use Rattle.pair_colours.specs.Colouring.{PairColouring, colour_at, points}
use Rattle.pair_colours.specs.Tests.{first_that_holds}
use Rattle.pair_colours.specs.declared.coloured_pairs.TheConstants.{MOST_POINTS}
use Rattle.pair_colours.proofs.TestLemmas.{AllFail, AllFail-append, AllFail-parts, AllFail-from_none, none-from_AllFail}
use Rattle.relation_text.specs.Relation.{IsMatrix}
use Rattle.relation_text.specs.LineColours.{no_part, cell, size_in}
use Rattle.relation_text.specs.Faults.{Test, row_tests, head_word, head_tests, matrix_tests}
use Rattle.relation_text.proofs.GraphBodies.{IsSize}
use Rattle.pair_colours.proofs.SameColours.{SameColours}
use Rattle.relation_text.proofs.MatrixRows.{IsGoodRow, row-from_fails, fails-from_row, length-words, good_number, row-from_matrix}

-- tests for each number of a range
each_fails : (f : ℕ → List Test) (a n : ℕ) → AllFail (flat_map f (range_with_len a n)) → (x : ℕ) → a ≤ x → x < a + n → AllFail (f x)
each_fails f a zero fails x low high = absurd (omega arith)
each_fails f a (suc n) fails x low high =
    let parts = AllFail-parts (f a) (flat_map f (range_with_len (a + 1) n)) fails in
    elim (cases_lt a x) [
      | inl later ↦ each_fails f (a + 1) n parts.1 x (omega arith) (omega arith)
      | inr here ↦ let same : a ≡ x = omega arith in subst (λ (y : ℕ). AllFail (f y)) same parts.0
    ]

fails_each : (f : ℕ → List Test) (a n : ℕ) → ((x : ℕ) → a ≤ x → x < a + n → AllFail (f x)) → AllFail (flat_map f (range_with_len a n))
fails_each f a zero each = tt
fails_each f a (suc n) each = AllFail-append (f a) (flat_map f (range_with_len (a + 1) n)) (each a (omega arith) (omega arith)) (fails_each f (a + 1) n (λ x low high. each x (omega arith) (omega arith)))

-- no test of a matrix holds, and n is its number of points
pub record IsGoodMatrix (head : Part) (rows : List Part) (n : ℕ) : Type 0 where
  pub number : number_of (head_word head).bytes ≡ Some n
  pub size : IsSize n
  pub row_at : (x : ℕ) → x < n → (row : Part) × (slice_get rows x ≡ Some row) × IsGoodRow n row

some_number : (o : Option ℕ) → is_none o ≡ false → o ≡ Some (unwrap_or o 0)
some_number None e = absurd (false≢true (sym e))
some_number (Some n) e = refl

row_there : (len n : ℕ) (o : Option Part) → AllFail (row_tests len n o) → (row : Part) × (o ≡ Some row) × IsGoodRow n row
row_there len n None fails = absurd (false≢true (sym fails.0))
row_there len n (Some row) fails = (row, refl, row-from_fails len n row fails)

pub matrix-from_none : (len : ℕ) (head : Part) (rows : List Part) → first_that_holds (matrix_tests len head rows) ≡ None → IsGoodMatrix head rows (size_in head)
matrix-from_none len head rows e =
    let n = size_in head in
    let parts = AllFail-parts (head_tests head) (flat_map (λ x. row_tests len n (slice_get rows x)) (points n)) (AllFail-from_none (matrix_tests len head rows) e) in
    record {
      number = some_number (number_of (head_word head).bytes) parts.0.0;
      size = record { least = let some = eqb-false n 0 parts.0.1.0 in omega arith; most = ltb-false MOST_POINTS n parts.0.1.1.0 };
      row_at = λ x h. row_there len n (slice_get rows x) (each_fails (λ y. row_tests len n (slice_get rows y)) 0 n parts.1 x (omega arith) (omega arith));
    }

pub none-from_matrix : (len : ℕ) (head : Part) (rows : List Part) (n : ℕ) → IsGoodMatrix head rows n → first_that_holds (matrix_tests len head rows) ≡ None
none-from_matrix len head rows n good =
    let o = number_of (head_word head).bytes in
    let is : size_in head ≡ n = ap (λ p. unwrap_or p 0) good.number in
    let some : is_none o ≡ false = ap is_none good.number in
    let least = good.size.least in
    let most = good.size.most in
    none-from_AllFail (matrix_tests len head rows) (AllFail-append (head_tests head) (flat_map (λ x. row_tests len (size_in head) (slice_get rows x)) (points (size_in head)))
    (some, (ne_eqb (size_in head) 0 (λ e. omega arith), (le-ltb MOST_POINTS (size_in head) (omega arith), tt)))
    (subst (λ (m : ℕ). AllFail (flat_map (λ x. row_tests len m (slice_get rows x)) (points m))) (sym is)
    (fails_each (λ x. row_tests len n (slice_get rows x)) 0 n (λ x low high.
    let at = good.row_at x (omega arith) in
    subst (λ (p : Option Part). AllFail (row_tests len n p)) (sym at.1) (fails-from_row len n at.0 at.2)))))

-- the colouring of the numbers is a reading
pub IsMatrix-from_good : (head : Part) (rows : List Part) (n : ℕ) (C : PairColouring) → head.bytes ≡ codes "matrix " ++ drop 7 head.bytes → IsGoodMatrix head rows n → C.size ≡ n
    → ((x y : ℕ) → x < n → y < n → colour_at C x y ≡ cell rows x y) → IsMatrix head.bytes rows C
IsMatrix-from_good head rows n C begins good size colours =
    let form = form-number_of (head_word head).bytes n good.number in
    record {
      sized = begins ∙ ap (λ word. codes "matrix " ++ word) (form.digits ∙ ap decimal (sym size));
      enough = elim (cases_lt (length rows) C.size) [
        | inl short ↦ let at = good.row_at (length rows) (omega arith) in absurd (let inside = slice_get_within rows (length rows) at.0 at.1 in omega arith)
        | inr long ↦ long
      ];
      row = λ x line h e.
          let at = good.row_at x (omega arith) in
          let same : at.0 ≡ line = same_Some at.0 line (sym at.1 ∙ e) in
          let is : IsGoodRow n line = subst (IsGoodRow n) same at.2 in
          let count = length-words n line is in
          let there : get_or rows x no_part ≡ line = get_or_from_slice_get rows x line no_part e in
          let at_cell : (y : ℕ) → cell rows x y ≡ digits_value 10 (get_or (words_of line) y no_part).bytes = λ y. ap (λ l. digits_value 10 (get_or (words_of l) y no_part).bytes) there in
          record {
            numbers = count ∙ sym size;
            colour = λ y word f.
                let inside = slice_get_within (words_of line) y word f in
                let value : colour_at C x y ≡ digits_value 10 word.bytes = colours x y (omega arith) (omega arith) ∙ at_cell y ∙ ap (λ w. digits_value 10 w.bytes) (get_or_from_slice_get (words_of line) y word no_part f) in
                rw value (good_number n line is y word f);
            limit = λ y l.
                let inside : y < length (words_of line) = omega arith in
                let word = is.words y (get_or (words_of line) y no_part) (slice_get-get_or (words_of line) y no_part inside) in
                rw (colours x y (omega arith) (omega arith), at_cell y) word.limit;
          };
    }

-- a reading passes all tests
pub good-from_IsMatrix : (head : Part) (rows : List Part) (C : PairColouring) → IsSize C.size → IsMatrix head.bytes rows C → IsGoodMatrix head rows C.size
good-from_IsMatrix head rows C size is =
    let most = size.most in
    record {
      number = number_of-form (drop 7 head.bytes) C.size (record { digits = ap (drop 7) is.sized; limit = omega arith });
      size = size;
      row_at = λ x h.
          let enough = is.enough in
          let there = slice_get-get_or rows x no_part (omega arith) in
          (get_or rows x no_part, there, row-from_matrix (get_or rows x no_part) C x (is.row x (get_or rows x no_part) h there));
    }

-- two readings have the same colours
pub same_matrices : (head : List ℕ) (rows : List Part) (C D : PairColouring) → IsSize C.size → IsSize D.size → IsMatrix head rows C → IsMatrix head rows D → SameColours C D
same_matrices head rows C D s t a b =
    let c = s.most in
    let d = t.most in
    let sizes : C.size ≡ D.size = decimal_injective C.size D.size (omega arith) (omega arith) (append_cancel_left (codes "matrix ") (decimal C.size) (decimal D.size) (sym a.sized ∙ b.sized)) in
    record {
      sizes = sizes;
      colours = λ x y h l.
          let enough = a.enough in
          let line = get_or rows x no_part in
          let there = slice_get-get_or rows x no_part (omega arith) in
          let p = a.row x line h there in
          let q = b.row x line (omega arith) there in
          let count = p.numbers in
          let word = get_or (words_of line) y no_part in
          let at = slice_get-get_or (words_of line) y no_part (omega arith) in
          IsNumberForm-unique word.bytes (colour_at C x y) (colour_at D x y) (p.colour y word at) (q.colour y word at);
    }
