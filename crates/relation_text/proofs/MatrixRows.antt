-- A row of a matrix: where no test holds, its words are the numbers of the row, and only there.
use Rattle.std.proofs.Common.{◌≡◌, ℕ, zero, suc, ◌+◌, ◌<◌, ◌≤◌, true, false, ltb, List, [], ◌∷◌, length, get_or, Some, refl, ap, subst, ◌∙◌, arith, inl, inr}
use Rattle.std.specs.Prelude.{All, not, slice_get}
use Rattle.std.specs.List.{flat_map, enumerate_from}
use Rattle.std.specs.Char.{is_ascii_digit}
use Rattle.std.specs.Str.{all_ascii_digits}
use Rattle.std.specs.Str.Parse.{digits_value}
use Rattle.std.proofs.lemmas.Bool.{cases_lt, cases_Bool, or_cases, and_parts, or_left, or_right, and_from, not-false, not_from_true, leb-false, lt-leb, ltb-false, le-ltb, both_ways}
use Rattle.std.proofs.lemmas.Option.{slice_get-get_or, slice_get_within, get_or_from_slice_get}
use Rattle.std.proofs.lemmas.List.Elements.{All-nil, All-cons, All-head, All-tail, All-weaker, All-from_get_or, All-get_or}
use Rattle.std.proofs.lemmas.List.Folds.{list_any_none}
use Rattle.std.proofs.lemmas.Fmt.{digits_decimal, digits_value-decimal}
use Rattle.text_lines.specs.Part.{Part}
use Rattle.text_lines.specs.Words.{words_of, is_blank_byte}
use Rattle.text_lines.specs.Number.{IsNumberForm, has_leading_zero}
use Rattle.text_lines.proofs.Numbers.{digit_numerals, IsNumberForm-from_digits, has_leading_zero-decimal}
use Rattle.text_lines.proofs.WordBytes.{words_from-bytes, words_from-some, bytes-words_from}
use Rattle.pair_colours.specs.Colouring.{PairColouring, colour_at}
use Rattle.pair_colours.specs.declared.coloured_pairs.TheConstants.{MOST_COLOUR}
use Rattle.pair_colours.proofs.TestLemmas.{AllFail, AllFail-append, AllFail-parts}
use Rattle.relation_text.specs.declared.faults.RelationWord.TheVariants.{MatrixCount}
use Rattle.relation_text.specs.Lines.{end_of}
use Rattle.relation_text.specs.Relation.{IsMatrixRow}
use Rattle.relation_text.specs.Faults.{Test, number_tests, row_tests, is_row_byte}
use Rattle.relation_text.proofs.AnyLemmas.{list_any-false}

-- a word of a row of n numbers, at its place in the row
pub record IsGoodWord (n y : ℕ) (word : Part) : Type 0 where
  pub within : y < n
  pub plain : has_leading_zero word.bytes ≡ false
  pub limit : digits_value 10 word.bytes ≤ MOST_COLOUR

abbrev pub words_tests : ℕ → ℕ → List Part → List Test
words_tests n y words = flat_map (number_tests n) (enumerate_from y words)

good_words : (n y : ℕ) (words : List Part) → AllFail (words_tests n y words) → (k : ℕ) (word : Part) → slice_get words k ≡ Some word → IsGoodWord n (y + k) word
good_words n y [] fails k word e = absurd cc
good_words n y (first ∷ words) fails zero word e =
    let same : first ≡ word = cc in
    subst (IsGoodWord n (y + 0)) same (record {
      within = let below = leb-false n y fails.0 in omega arith;
      plain = fails.1.0;
      limit = ltb-false MOST_COLOUR (digits_value 10 first.bytes) fails.1.1.0;
    })
good_words n y (first ∷ words) fails (suc k) word e =
    let there : y + 1 + k ≡ y + suc k = omega arith in
    subst (λ (i : ℕ). IsGoodWord n i word) there (good_words n (y + 1) words fails.1.1.1 k word e)

words_fail : (n y : ℕ) (words : List Part) → ((k : ℕ) (word : Part) → slice_get words k ≡ Some word → IsGoodWord n (y + k) word) → AllFail (words_tests n y words)
words_fail n y [] good = tt
words_fail n y (first ∷ words) good =
    let here = good 0 first refl in
    let rest : (k : ℕ) (word : Part) → slice_get words k ≡ Some word → IsGoodWord n (y + 1 + k) word = λ k word e.
    let there : y + suc k ≡ y + 1 + k = omega arith in
    subst (λ (i : ℕ). IsGoodWord n i word) there (good (suc k) word e) in
    (lt-leb n y (omega (arith, here.within)), (here.plain, (le-ltb MOST_COLOUR (digits_value 10 first.bytes) here.limit, words_fail n (y + 1) words rest)))

-- no test of a row holds
pub record IsGoodRow (n : ℕ) (row : Part) : Type 0 where
  pub row_bytes : All (λ b. is_row_byte b ≡ true) row.bytes
  pub words : (k : ℕ) (word : Part) → slice_get (words_of row) k ≡ Some word → IsGoodWord n k word
  pub enough : n ≤ length (words_of row)

pub row-from_fails : (len n : ℕ) (row : Part) → AllFail (row_tests len n (Some row)) → IsGoodRow n row
row-from_fails len n row fails =
    let parts = AllFail-parts (words_tests n 0 (words_of row)) ((ltb (length (words_of row)) n, (MatrixCount, end_of row)) ∷ []) fails.1 in
    record {
      row_bytes = All-from_get_or (λ b. is_row_byte b ≡ true) row.bytes 0 (λ k h. not-false (is_row_byte (get_or row.bytes k 0)) (list_any-false (λ b. not (is_row_byte b)) row.bytes k 0 fails.0 h));
      words = λ k word e. let there : 0 + k ≡ k = omega arith in subst (λ (i : ℕ). IsGoodWord n i word) there (good_words n 0 (words_of row) parts.0 k word e);
      enough = ltb-false (length (words_of row)) n parts.1.0;
    }

pub fails-from_row : (len n : ℕ) (row : Part) → IsGoodRow n row → AllFail (row_tests len n (Some row))
fails-from_row len n row good = (
  list_any_none (λ b. not (is_row_byte b)) row.bytes (All-weaker (λ b. is_row_byte b ≡ true) (λ b. not (is_row_byte b) ≡ false) (λ b. not_from_true (is_row_byte b)) row.bytes good.row_bytes),
  AllFail-append (words_tests n 0 (words_of row)) ((ltb (length (words_of row)) n, (MatrixCount, end_of row)) ∷ [])
      (words_fail n 0 (words_of row) (λ k word e. let there : k ≡ 0 + k = omega arith in subst (λ (i : ℕ). IsGoodWord n i word) there (good.words k word e)))
      (le-ltb (length (words_of row)) n good.enough, tt),
)

-- a good row has as many numbers as it should
pub length-words : (n : ℕ) (row : Part) → IsGoodRow n row → length (words_of row) ≡ n
length-words n row good = elim (cases_lt n (length (words_of row))) [
  | inl more ↦ let last = good.words n _ (slice_get-get_or (words_of row) n (record { start = 0; bytes = [] }) more) in absurd (omega (arith, last.within))
  | inr fewer ↦ let enough = good.enough in omega arith
]

all_digits : (bytes : List ℕ) → All (λ b. is_ascii_digit b ≡ true) bytes → all_ascii_digits bytes ≡ true
all_digits [] all = refl
all_digits (b ∷ bytes) all = and_from (is_ascii_digit b) (all_ascii_digits bytes) (All-head (λ x. is_ascii_digit x ≡ true) b bytes all) (all_digits bytes (All-tail (λ x. is_ascii_digit x ≡ true) b bytes all))

each_digit : (bytes : List ℕ) → all_ascii_digits bytes ≡ true → All (λ b. is_ascii_digit b ≡ true) bytes
each_digit [] e = All-nil (λ b. is_ascii_digit b ≡ true)
each_digit (b ∷ bytes) e = let parts = and_parts (is_ascii_digit b) (all_ascii_digits bytes) e in All-cons (λ x. is_ascii_digit x ≡ true) b bytes parts.0 (each_digit bytes parts.1)

pub digit_or_blank : (b : ℕ) → is_row_byte b ≡ true → is_blank_byte b ≡ false → is_ascii_digit b ≡ true
digit_or_blank b e f = elim (or_cases (is_ascii_digit b) (is_blank_byte b) e) [ inl digit ↦ digit | inr blank ↦ absurd (both_ways (is_blank_byte b) f blank) ]

-- the words of a line of digits and blanks are digits, and there are some
pub words-digits : (row : Part) → All (λ b. is_row_byte b ≡ true) row.bytes → All (λ word. all_ascii_digits word.bytes ≡ true) (words_of row)
words-digits row all =
    All-weaker (λ word. All (λ b. is_ascii_digit b ≡ true) word.bytes) (λ word. all_ascii_digits word.bytes ≡ true) (λ word. all_digits word.bytes) (words_of row)
    (words_from-bytes (λ b. is_ascii_digit b ≡ true) row.start row.bytes (All-weaker (λ b. is_row_byte b ≡ true) (λ b. is_blank_byte b ≡ false → is_ascii_digit b ≡ true) digit_or_blank row.bytes all))

-- so each word of a good row is the number that its digits write
pub good_number : (n : ℕ) (row : Part) → IsGoodRow n row → (k : ℕ) (word : Part) → slice_get (words_of row) k ≡ Some word → IsNumberForm word.bytes (digits_value 10 word.bytes)
good_number n row good k word e =
    let inside = slice_get_within (words_of row) k word e in
    let same : get_or (words_of row) k word ≡ word = get_or_from_slice_get (words_of row) k word word e in
    let some : 0 < length word.bytes = subst (λ (w : Part). 0 < length w.bytes) same (All-get_or (λ w. 0 < length w.bytes) (words_of row) k word inside (words_from-some row.start row.bytes)) in
    let digits : all_ascii_digits word.bytes ≡ true = subst (λ (w : Part). all_ascii_digits w.bytes ≡ true) same (All-get_or (λ w. all_ascii_digits w.bytes ≡ true) (words_of row) k word inside (words-digits row good.row_bytes)) in
    let is = good.words k word e in
    let limit = is.limit in
    IsNumberForm-from_digits word.bytes some digits is.plain (omega arith)

-- the words of a row of a matrix make a good row
pub row-from_matrix : (row : Part) (C : PairColouring) (x : ℕ) → IsMatrixRow (words_of row) C x → IsGoodRow C.size row
row-from_matrix row C x is =
    let digits : All (λ word. All (λ b. is_ascii_digit b ≡ true) word.bytes) (words_of row) = λ k d h.
    let word = get_or (words_of row) k d in
    let form = is.colour k word (slice_get-get_or (words_of row) k d h) in
    each_digit word.bytes (rw form.digits (digits_decimal digit_numerals (colour_at C x k) (omega (arith, form.limit)))) in
    let none_else = bytes-words_from (λ b. is_ascii_digit b ≡ true) row.start row.bytes digits in
    record {
      row_bytes = λ k d h.
          let b = get_or row.bytes k d in
          elim (cases_Bool (is_blank_byte b)) [
            | inl blank ↦ or_right (is_ascii_digit b) (is_blank_byte b) blank
            | inr other ↦ or_left (is_ascii_digit b) (is_blank_byte b) (none_else k d h other)
          ];
      words = λ k word e.
          let form = is.colour k word e in
          let inside = slice_get_within (words_of row) k word e in
          let size = is.numbers in
          let below : k < C.size = omega arith in
          let value : digits_value 10 word.bytes ≡ colour_at C x k = ap (digits_value 10) form.digits ∙ digits_value-decimal digit_numerals (colour_at C x k) (omega (arith, form.limit)) in
          record { within = below; plain = rw form.digits (has_leading_zero-decimal (colour_at C x k) form.limit); limit = omega (arith, is.limit k below) };
      enough = let size = is.numbers in omega arith;
    }
