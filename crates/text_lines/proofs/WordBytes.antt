-- The words of a line hold the bytes of the line that are no blanks.
use Rattle.std.proofs.Common.{◌≡◌, ℕ, ◌+◌, ◌<◌, cond, Bool, true, false, eqb, List, [], ◌∷◌, length, refl, arith}
use Rattle.std.specs.Prelude.{not, filter, All}
use Rattle.std.specs.List.{slice_split, onto_first}
use Rattle.std.proofs.lemmas.Bool.{not-true, not-false, eqb-true, eqb-false, both_ways}
use Rattle.std.proofs.lemmas.List.{nil_from_length}
use Rattle.std.proofs.lemmas.List.Elements.{All-nil, All-cons, All-head, All-tail, All-same, All-filter, All-weaker, filter_passes}
use Rattle.text_lines.specs.Part.{Part, placed}
use Rattle.text_lines.specs.Words.{is_blank_byte, words_from}

abbrev is_some : Part → Bool
is_some word = not (eqb (length word.bytes) 0)

onto_first-all : (Q : ℕ → Type 0) (b : ℕ) (parts : List (List ℕ)) → Q b → All (λ part. All Q part) parts → All (λ part. All Q part) (onto_first b parts)
onto_first-all Q b [] q all = All-cons (λ part. All Q part) (b ∷ []) [] (All-cons Q b [] q (All-nil Q)) (All-nil (λ part. All Q part))
onto_first-all Q b (part ∷ parts) q all = All-cons (λ part. All Q part) (b ∷ part) parts (All-cons Q b part q (All-head (λ part. All Q part) part parts all)) (All-tail (λ part. All Q part) part parts all)

parts-all : (Q : ℕ → Type 0) (text : List ℕ) → All (λ b. is_blank_byte b ≡ false → Q b) text → All (λ part. All Q part) (slice_split is_blank_byte text)
parts-all Q [] all = All-cons (λ part. All Q part) [] [] (All-nil Q) (All-nil (λ part. All Q part))
parts-all Q (b ∷ text) all =
    let rest = parts-all Q text (All-tail (λ x. is_blank_byte x ≡ false → Q x) b text all) in
    let here = All-head (λ x. is_blank_byte x ≡ false → Q x) b text all in
    elim (is_blank_byte b) as (λ t. is_blank_byte b ≡ t → All (λ part. All Q part) (cond t ([] ∷ slice_split is_blank_byte text) (onto_first b (slice_split is_blank_byte text)))) [
      | true ↦ λ e. All-cons (λ part. All Q part) [] (slice_split is_blank_byte text) (All-nil Q) rest
      | false ↦ λ e. onto_first-all Q b (slice_split is_blank_byte text) (here e) rest
    ] refl

placed-all : (Q : ℕ → Type 0) (place : ℕ) (parts : List (List ℕ)) → All (λ part. All Q part) parts → All (λ word. All Q word.bytes) (placed place parts)
placed-all Q place [] all = All-nil (λ word. All Q word.bytes)
placed-all Q place (part ∷ parts) all = All-cons (λ word. All Q word.bytes) (record { start = place; bytes = part }) (placed (place + length part + 1) parts)
    (All-head (λ p. All Q p) part parts all) (placed-all Q (place + length part + 1) parts (All-tail (λ p. All Q p) part parts all))

-- what holds of each byte of a line that is no blank holds of each byte of its words
pub words_from-bytes : (Q : ℕ → Type 0) (place : ℕ) (text : List ℕ) → All (λ b. is_blank_byte b ≡ false → Q b) text → All (λ word. All Q word.bytes) (words_from place text)
words_from-bytes Q place text all = All-filter is_some (λ word. All Q word.bytes) (placed place (slice_split is_blank_byte text)) (placed-all Q place (slice_split is_blank_byte text) (parts-all Q text all))

-- no word is empty
pub words_from-some : (place : ℕ) (text : List ℕ) → All (λ word. 0 < length word.bytes) (words_from place text)
words_from-some place text = All-weaker (λ word. is_some word ≡ true) (λ word. 0 < length word.bytes)
    (λ word e. let ne = eqb-false (length word.bytes) 0 (not-true (eqb (length word.bytes) 0) e) in omega arith) (words_from place text) (filter_passes is_some (placed place (slice_split is_blank_byte text)))

-- the way back: what holds of each byte of the words holds of each byte of the line that is no blank
unfiltered : (Q : ℕ → Type 0) (parts : List Part) → All (λ word. All Q word.bytes) (filter is_some parts) → All (λ word. All Q word.bytes) parts
unfiltered Q [] all = All-nil (λ word. All Q word.bytes)
unfiltered Q (part ∷ parts) all = elim (is_some part) as (λ t. is_some part ≡ t → All (λ word. All Q word.bytes) (cond t (part ∷ filter is_some parts) (filter is_some parts)) → All (λ word. All Q word.bytes) (part ∷ parts)) [
  | true ↦ λ e kept. All-cons (λ word. All Q word.bytes) part parts (All-head (λ word. All Q word.bytes) part (filter is_some parts) kept)
      (unfiltered Q parts (All-tail (λ word. All Q word.bytes) part (filter is_some parts) kept))
  | false ↦ λ e kept. All-cons (λ word. All Q word.bytes) part parts (All-same Q part.bytes [] (nil_from_length part.bytes (eqb-true (length part.bytes) 0 (not-false (eqb (length part.bytes) 0) e))) (All-nil Q))
      (unfiltered Q parts kept)
] refl all

unplaced : (Q : ℕ → Type 0) (place : ℕ) (parts : List (List ℕ)) → All (λ word. All Q word.bytes) (placed place parts) → All (λ part. All Q part) parts
unplaced Q place [] all = All-nil (λ part. All Q part)
unplaced Q place (part ∷ parts) all =
    let head : Part = record { start = place; bytes = part } in
    let tail = placed (place + length part + 1) parts in
    All-cons (λ p. All Q p) part parts (All-head (λ word. All Q word.bytes) head tail all) (unplaced Q (place + length part + 1) parts (All-tail (λ word. All Q word.bytes) head tail all))

off_first : (Q : ℕ → Type 0) (b : ℕ) (parts : List (List ℕ)) → All (λ part. All Q part) (onto_first b parts) → Q b × All (λ part. All Q part) parts
off_first Q b [] all = (All-head Q b [] (All-head (λ part. All Q part) (b ∷ []) [] all), All-nil (λ part. All Q part))
off_first Q b (part ∷ parts) all =
    let first = All-head (λ p. All Q p) (b ∷ part) parts all in
    (All-head Q b part first, All-cons (λ p. All Q p) part parts (All-tail Q b part first) (All-tail (λ p. All Q p) (b ∷ part) parts all))

unsplit : (Q : ℕ → Type 0) (text : List ℕ) → All (λ part. All Q part) (slice_split is_blank_byte text) → All (λ b. is_blank_byte b ≡ false → Q b) text
unsplit Q [] all = All-nil (λ b. is_blank_byte b ≡ false → Q b)
unsplit Q (b ∷ text) all = elim (is_blank_byte b) as (λ t. is_blank_byte b ≡ t → All (λ part. All Q part) (cond t ([] ∷ slice_split is_blank_byte text) (onto_first b (slice_split is_blank_byte text))) → All (λ x. is_blank_byte x ≡ false → Q x) (b ∷ text)) [
  | true ↦ λ e kept. All-cons (λ x. is_blank_byte x ≡ false → Q x) b text (λ f. absurd (both_ways (is_blank_byte b) f e)) (unsplit Q text (All-tail (λ part. All Q part) [] (slice_split is_blank_byte text) kept))
  | false ↦ λ e kept. let parts = off_first Q b (slice_split is_blank_byte text) kept in All-cons (λ x. is_blank_byte x ≡ false → Q x) b text (λ f. parts.0) (unsplit Q text parts.1)
] refl all

pub bytes-words_from : (Q : ℕ → Type 0) (place : ℕ) (text : List ℕ) → All (λ word. All Q word.bytes) (words_from place text) → All (λ b. is_blank_byte b ≡ false → Q b) text
bytes-words_from Q place text all = unsplit Q text (unplaced Q place (slice_split is_blank_byte text) (unfiltered Q (placed place (slice_split is_blank_byte text)) all))
