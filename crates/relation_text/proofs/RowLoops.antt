-- What the loop over the words of a row has done so far.
use Rattle.std.proofs.Common.{◌≡◌, ◌≢◌, ℕ, ◌+◌, ◌<◌, ◌≤◌, Bool, true, false, cond, ltb, leb, List, [], ◌∷◌, ◌++◌, length, drop, get_or, Option, Some, None, refl, sym, ap, ◌∙◌, arith, inl, inr, length-drop}
use Rattle.std.specs.Prelude.{All, not}
use Rattle.std.specs.List.{list_any, position_or_len}
use Rattle.std.specs.Char.{is_ascii_digit}
use Rattle.std.specs.Str.Parse.{digits_value}
use Rattle.std.proofs.lemmas.Bool.{cases_lt, not-false, lt-leb, lt-ltb, le-ltb}
use Rattle.std.proofs.lemmas.List.{drop-drop, get_or-drop}
use Rattle.std.proofs.lemmas.List.Elements.{All-head, All-rest, All-same, All-weaker}
use Rattle.text_lines.specs.Part.{Part}
use Rattle.text_lines.specs.Words.{words_of, is_blank_byte}
use Rattle.text_lines.specs.Number.{has_leading_zero}
use Rattle.text_lines.proofs.WordBytes.{words_from-bytes}
use Rattle.text_lines.proofs.Within.{IsBetween, words_from-within}
use Rattle.pair_colours.specs.Colouring.{PairColouring, IsColouring, colour_at}
use Rattle.pair_colours.specs.Tests.{first_that_holds}
use Rattle.pair_colours.specs.declared.coloured_pairs.TheConstants.{MOST_COLOUR}
use Rattle.relation_text.specs.declared.faults.RelationWord.{RelationWord}
use Rattle.relation_text.specs.declared.faults.RelationWord.TheVariants.{MatrixNumber, MatrixCount, ColourTooLarge, BadByte}
use Rattle.relation_text.specs.Lines.{end_of}
use Rattle.relation_text.specs.LineColours.{no_part, cell_of}
use Rattle.relation_text.specs.Faults.{Test, row_tests, is_row_byte}
use Rattle.relation_text.proofs.AnyLemmas.{list_any-false}
use Rattle.relation_text.proofs.MatrixRows.{words_tests, digit_or_blank}

-- the test that comes after all numbers
abbrev pub last_test : ℕ → Part → List Test
last_test n row = (ltb (length (words_of row)) n, (MatrixCount, end_of row)) ∷ []

-- the first fault of the words that are left, the first of which stands at place y
abbrev pub fault_left : ℕ → ℕ → Part → List Part → Option (RelationWord × ℕ)
fault_left n y row left = first_that_holds (words_tests n y left ++ last_test n row)

-- y words are read, and `left` are left; the colours of row x are read so far, and the others are as they were
pub record ReadsRow (row : Part) (old new : PairColouring) (x y : ℕ) (left : List Part) : Type 0 where
  pub colouring : IsColouring new
  pub rest : left ≡ drop y (words_of row)
  pub count : y ≤ length (words_of row)
  pub tests : first_that_holds (row_tests 0 old.size (Some row)) ≡ fault_left old.size y row left
  pub digits : All (λ word. All (λ b. is_ascii_digit b ≡ true) word.bytes) left
  pub within : All (λ word. word.start ≤ end_of row) left
  pub points : new.size ≡ old.size
  pub cells : (v : ℕ) → v < y → v < old.size → colour_at new x v ≡ cell_of row v
  pub others : (u v : ℕ) → u < old.size → v < old.size → u ≢ x → colour_at new u v ≡ colour_at old u v

-- before the first word
pub ReadsRow-none : (row : Part) (old : PairColouring) (x : ℕ) (left : List Part) → IsColouring old → left ≡ words_of row → list_any (λ b. not (is_row_byte b)) row.bytes ≡ false → ReadsRow row old old x 0 left
ReadsRow-none row old x left colouring e none =
    let bytes : All (λ b. is_row_byte b ≡ true) row.bytes = λ k d h. not-false (is_row_byte (get_or row.bytes k d)) (list_any-false (λ b. not (is_row_byte b)) row.bytes k d none h) in
    record {
      colouring = colouring;
      rest = e;
      count = omega arith;
      tests = ap (λ t. cond t (Some (BadByte, row.start + position_or_len (λ b. not (is_row_byte b)) row.bytes)) (fault_left old.size 0 row (words_of row))) none ∙ ap (fault_left old.size 0 row) (sym e);
      digits = All-same (λ word. All (λ b. is_ascii_digit b ≡ true) word.bytes) left (words_of row) e
          (words_from-bytes (λ b. is_ascii_digit b ≡ true) row.start row.bytes (All-weaker (λ b. is_row_byte b ≡ true) (λ b. is_blank_byte b ≡ false → is_ascii_digit b ≡ true) digit_or_blank row.bytes bytes));
      within = All-same (λ word. word.start ≤ end_of row) left (words_of row) e
          (All-weaker (IsBetween row.start (end_of row)) (λ word. word.start ≤ end_of row) (λ word at. let last = at.last in omega arith) (words_of row) (words_from-within row.start row.bytes));
      points = refl;
      cells = λ v h l. absurd (omega arith);
      others = λ u v h l ne. refl;
    }

-- the first of the words that are left
pub record HasWord (row : Part) (n y : ℕ) (left : List Part) (word : Part) (more : List Part) : Type 0 where
  pub cons : left ≡ word ∷ more
  pub cell : cell_of row y ≡ digits_value 10 word.bytes
  pub digits : All (λ b. is_ascii_digit b ≡ true) word.bytes
  pub within : word.start ≤ end_of row
  pub inside : y < length (words_of row)

pub has_word : (row : Part) (old new : PairColouring) (x y : ℕ) (left more : List Part) (word : Part) → ReadsRow row old new x y left → left ≡ word ∷ more → HasWord row old.size y left word more
has_word row old new x y left more word so_far e =
    let there : drop y (words_of row) ≡ word ∷ more = sym so_far.rest ∙ e in
    let len : length (drop y (words_of row)) ≡ length (word ∷ more) = ap length there in
    let there_too : y + 0 ≡ y = omega arith in
    record {
      cons = e;
      cell = ap (λ k. digits_value 10 (get_or (words_of row) k no_part).bytes) (sym there_too) ∙ ap (λ w. digits_value 10 w.bytes) (sym (get_or-drop y (words_of row) 0 no_part) ∙ ap (λ ws. get_or ws 0 no_part) there);
      digits = All-head (λ w. All (λ b. is_ascii_digit b ≡ true) w.bytes) word more (All-same (λ w. All (λ b. is_ascii_digit b ≡ true) w.bytes) (word ∷ more) left (sym e) so_far.digits);
      within = All-head (λ w. w.start ≤ end_of row) word more (All-same (λ w. w.start ≤ end_of row) (word ∷ more) left (sym e) so_far.within);
      inside = omega (arith, length-drop y (words_of row));
    }

-- the first fault of what is left, by the first word
three : (a b c : Bool) (p q r : RelationWord × ℕ) (rest : Option (RelationWord × ℕ)) → a ≡ false → b ≡ false → c ≡ false → cond a (Some p) (cond b (Some q) (cond c (Some r) rest)) ≡ rest
three a b c p q r rest d e f = ap (λ t. cond t (Some p) (cond b (Some q) (cond c (Some r) rest))) d ∙ ap (λ t. cond t (Some q) (cond c (Some r) rest)) e ∙ ap (λ t. cond t (Some r) rest) f

pub fault_left-good : (n y : ℕ) (row word : Part) (left more : List Part) → left ≡ word ∷ more → y < n → has_leading_zero word.bytes ≡ false → digits_value 10 word.bytes ≤ MOST_COLOUR → fault_left n y row left ≡ fault_left n (y + 1) row more
fault_left-good n y row word left more e inside plain small = ap (fault_left n y row) e
    ∙ three (leb n y) (has_leading_zero word.bytes) (ltb MOST_COLOUR (digits_value 10 word.bytes)) (MatrixCount, word.start) (MatrixNumber, word.start) (ColourTooLarge, word.start)
    (fault_left n (y + 1) row more) (lt-leb n y inside) plain (le-ltb MOST_COLOUR (digits_value 10 word.bytes) small)

pub fault_left-few : (n y : ℕ) (row : Part) (left : List Part) → left ≡ [] → length (words_of row) < n → fault_left n y row left ≡ Some (MatrixCount, end_of row)
fault_left-few n y row left e few = ap (fault_left n y row) e ∙ ap (λ t. cond t (Some (MatrixCount, end_of row)) None) (lt-ltb (length (words_of row)) n few)

-- no word is left
pub no_word : (row : Part) (old new : PairColouring) (x y : ℕ) (left : List Part) → ReadsRow row old new x y left → left ≡ [] → length (words_of row) ≤ y
no_word row old new x y left so_far e = omega (arith, ap length (sym so_far.rest ∙ e), length-drop y (words_of row))

-- one more number
pub ReadsRow-more : (row : Part) (old new next : PairColouring) (x y colour : ℕ) (left more : List Part) (word : Part) → ReadsRow row old new x y left → left ≡ word ∷ more
    → y < old.size → has_leading_zero word.bytes ≡ false → (colour ≡ digits_value 10 word.bytes) × (colour ≤ MOST_COLOUR)
    → IsColouring next → next.size ≡ old.size → colour_at next x y ≡ colour
    → ((u v : ℕ) → u < old.size → v < old.size → (u ≡ x → v ≢ y) → colour_at next u v ≡ colour_at new u v) → x < old.size → ReadsRow row old next x (y + 1) more
ReadsRow-more row old new next x y colour left more word so_far e inside plain is colouring points here others hx =
    let has = has_word row old new x y left more word so_far e in
    let below = has.inside in
    let small = is.1 in
    record {
      colouring = colouring;
      rest = ap (drop 1) (sym e ∙ so_far.rest) ∙ drop-drop 1 y (words_of row);
      count = omega arith;
      tests = so_far.tests ∙ fault_left-good old.size y row word left more e inside plain (omega (arith, is.0));
      digits = All-rest (λ w. All (λ b. is_ascii_digit b ≡ true) w.bytes) word more left e so_far.digits;
      within = All-rest (λ w. w.start ≤ end_of row) word more left e so_far.within;
      points = points;
      cells = λ v h l. elim (cases_lt v y) [
        | inl before ↦ others x v hx l (λ a b. omega arith) ∙ so_far.cells v before l
        | inr at ↦ let same : v ≡ y = omega arith in rw same (here ∙ is.0 ∙ sym has.cell)
      ];
      others = λ u v h l ne. others u v h l (λ a. absurd (ne a)) ∙ so_far.others u v h l ne;
    }
