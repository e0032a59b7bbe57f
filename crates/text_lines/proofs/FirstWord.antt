-- The first word of a line, and what is left after it.
use Rattle.std.proofs.Common.{◌≡◌, ℕ, ◌+◌, ◌<◌, cond, Bool, true, false, eqb, List, [], ◌∷◌, length, take, drop, get_or, suc, refl, sym, ap, subst, ◌∙◌, arith, add-zero, inl, inr}
use Rattle.std.specs.Prelude.{not, filter}
use Rattle.std.specs.List.{slice_split, onto_first, position_or_len}
use Rattle.std.proofs.lemmas.Bool.{ne_eqb, cases_lt}
use Rattle.std.proofs.lemmas.List.{take_all, drop_all, drop_more, length-take-le}
use Rattle.std.proofs.lemmas.List.Sums.{prefix_len_stops}
use Rattle.std.proofs.lemmas.List.Splits.{slice_split_first}
use Rattle.text_lines.specs.Part.{Part, placed}
use Rattle.text_lines.specs.Words.{is_blank_byte, words_from}
use Rattle.text_lines.proofs.FirstPlace.{position_or_len-le-length, slice_split_whole}

abbrev is_word_byte : ℕ → Bool
is_word_byte b = not (is_blank_byte b)

abbrev is_some : Part → Bool
is_some word = not (eqb (length word.bytes) 0)

-- a blank in front makes no word
after_blank : (place b : ℕ) (text : List ℕ) → is_blank_byte b ≡ true → words_from place (b ∷ text) ≡ words_from (place + 1) text
after_blank place b text e = ap (λ t. filter is_some (placed place (cond t ([] ∷ slice_split is_blank_byte text) (onto_first b (slice_split is_blank_byte text))))) e
    ∙ ap (λ q. filter is_some (placed q (slice_split is_blank_byte text))) (omega arith)

-- nor do all the blanks in front
pub words_from-blanks : (place : ℕ) (text : List ℕ) → let k = position_or_len is_word_byte text in words_from place text ≡ words_from (place + k) (drop k text)
words_from-blanks place [] = refl
words_from-blanks place (b ∷ text) =
    elim (is_blank_byte b) as (λ t. is_blank_byte b ≡ t → let k = cond (not (not t)) (1 + position_or_len is_word_byte text) 0 in words_from place (b ∷ text) ≡ words_from (place + k) (drop k (b ∷ text))) [
      | true ↦ λ e.
          let k = position_or_len is_word_byte text in
          let next : 1 + k ≡ suc k = omega arith in
          let there : place + 1 + k ≡ place + (1 + k) = omega arith in
          after_blank place b text e ∙ words_from-blanks (place + 1) text ∙ ap (λ q. words_from q (drop k text)) there ∙ ap (λ i. words_from (place + (1 + k)) (drop i (b ∷ text))) (sym next)
      | false ↦ λ e. ap (λ q. words_from q (b ∷ text)) (sym (add-zero place))
    ] refl

-- after the blanks in front comes a word, or nothing
pub nothing_left : (text : List ℕ) → let k = position_or_len is_word_byte text in position_or_len is_blank_byte (drop k text) ≡ 0 → drop k text ≡ []
nothing_left [] h = refl
nothing_left (b ∷ text) h =
    elim (is_blank_byte b) as (λ t. is_blank_byte b ≡ t → let k = cond (not (not t)) (1 + position_or_len is_word_byte text) 0 in position_or_len is_blank_byte (drop k (b ∷ text)) ≡ 0 → drop k (b ∷ text) ≡ []) [
      | true ↦ λ e z.
          let k = position_or_len is_word_byte text in
          let next : 1 + k ≡ suc k = omega arith in
          rw next (nothing_left text (rw next at z))
      | false ↦ λ e z. absurd (let f = ap (λ t. cond (not t) (1 + position_or_len is_blank_byte text) 0) e in omega arith)
    ] refl h

not_not : (b : Bool) → not b ≡ false → b ≡ true
not_not true e = refl
not_not false e = absurd cc

kept : (place : ℕ) (word : List ℕ) (rest : List Part) → 0 < length word → filter is_some (record { start = place; bytes = word } ∷ rest) ≡ record { start = place; bytes = word } ∷ filter is_some rest
kept place word rest h = let e : eqb (length word) 0 ≡ false = ne_eqb (length word) 0 (λ z. omega arith) in
    ap (λ b. cond (not b) (record { start = place; bytes = word } ∷ filter is_some rest) (filter is_some rest)) e

-- a text that begins with a word goes on after it
pub words_from-word : (place : ℕ) (text : List ℕ) (n : ℕ) → n ≡ position_or_len is_blank_byte text → 0 < n
    → words_from place text ≡ record { start = place; bytes = take n text } ∷ words_from (place + n) (drop n text)
words_from-word place text n e h = elim (cases_lt n (length text)) [
  | inl inside ↦
      let rest = drop (n + 1) text in
      let split : slice_split is_blank_byte text ≡ take n text ∷ slice_split is_blank_byte rest = subst (λ (k : ℕ). slice_split is_blank_byte text ≡ take k text ∷ slice_split is_blank_byte (drop (k + 1) text)) (sym e) (slice_split_first is_blank_byte text 0 (omega arith)) in
      let len : length (take n text) ≡ n = length-take-le n text (omega arith) in
      let after : place + length (take n text) + 1 ≡ place + n + 1 = omega arith in
      let blank : is_blank_byte (get_or text n 0) ≡ true = not_not (is_blank_byte (get_or text n 0)) (rw e (prefix_len_stops is_word_byte text 0 (omega arith))) in
      ap (λ parts. filter is_some (placed place parts)) split
      ∙ kept place (take n text) (placed (place + length (take n text) + 1) (slice_split is_blank_byte rest)) (omega arith)
      ∙ ap (λ q. record { start = place; bytes = take n text } ∷ filter is_some (placed q (slice_split is_blank_byte rest))) after
      ∙ ap (λ more. record { start = place; bytes = take n text } ∷ more) (sym (ap (words_from (place + n)) (drop_more text n 0 inside) ∙ after_blank (place + n) (get_or text n 0) rest blank))
  | inr past ↦
      let within = position_or_len-le-length is_blank_byte text in
      ap (λ parts. filter is_some (placed place parts)) (slice_split_whole is_blank_byte text (omega arith))
      ∙ kept place text [] (omega arith)
      ∙ ap (λ word. record { start = place; bytes = word } ∷ []) (sym (take_all n text past))
      ∙ ap (λ more. record { start = place; bytes = take n text } ∷ words_from (place + n) more) (sym (drop_all n text past))
]

-- the steps of the iterator: k blanks are skipped, and then n bytes are the word
pub words_from-nil : (place k q : ℕ) (text rest after : List ℕ) → k ≡ position_or_len is_word_byte text → rest ≡ drop k text → 0 ≡ position_or_len is_blank_byte rest → after ≡ drop 0 rest
    → (words_from place text ≡ []) × (words_from q after ≡ [])
words_from-nil place k q text rest after e f g h =
    let none : rest ≡ [] = rw (f, e) (nothing_left text (rw (f, e) at (sym g))) in
    (words_from-blanks place text ∙ ap (words_from (place + position_or_len is_word_byte text)) (sym (rw e at f) ∙ none), ap (words_from q) (h ∙ none))

pub words_from-first : (place k n i j : ℕ) (text rest bytes after : List ℕ) → k ≡ position_or_len is_word_byte text → rest ≡ drop k text
    → n ≡ position_or_len is_blank_byte rest → 0 < n → bytes ≡ take n rest → after ≡ drop n rest → i ≡ k → j ≡ n
    → words_from place text ≡ record { start = place + i; bytes = bytes } ∷ words_from (place + i + j) after
words_from-first place k n i j text rest bytes after e f g some h l a b =
    let skipped : words_from place text ≡ words_from (place + k) rest = rw (f, e) (words_from-blanks place text) in
    skipped ∙ rw (a, b, h, l) (words_from-word (place + k) rest n g some)
