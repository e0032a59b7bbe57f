-- The lines of a text and the words of a line lie within it.
use Rattle.std.proofs.Common.{◌≡◌, ℕ, zero, suc, ◌+◌, ◌-◌, ◌≤◌, min, cond, true, false, eqb, List, [], ◌∷◌, length, take, drop, get_or, refl, ap, subst, arith, length-drop, inl, inr, not}
use Rattle.std.specs.List.{position_or_len, All}
use Rattle.std.specs.Str.Lines.{strip_carriage_return}
use Rattle.std.proofs.lemmas.List.{length-take, nil_from_length}
use Rattle.std.proofs.lemmas.Bool.{cases_lt}
use Rattle.std.proofs.lemmas.List.Elements.{All-nil, All-cons, All-same}
use Rattle.text_lines.specs.Part.{Part}
use Rattle.text_lines.specs.Lines.{lines_from, lines_of}
use Rattle.text_lines.specs.Words.{is_blank_byte, words_from}
use Rattle.text_lines.proofs.FirstLine.{lines_from-first}
use Rattle.text_lines.proofs.FirstPlace.{position_or_len-le-length}
use Rattle.text_lines.proofs.FirstWord.{words_from-nil, words_from-first}

-- the part stands between the places `from` and `to`
pub record IsBetween (from to : ℕ) (part : Part) : Type 0 where
  pub first : from ≤ part.start
  pub last : part.start + length part.bytes ≤ to

length-strip_carriage_return-le : (line : List ℕ) → length (strip_carriage_return line) ≤ length line
length-strip_carriage_return-le line = elim (eqb (get_or line (length line - 1) 0) 13) as (λ b. length (cond b (take (length line - 1) line) line) ≤ length line) [
  | true ↦ omega (arith, length-take (length line - 1) line)
  | false ↦ omega arith
]

All-wider : (from low to : ℕ) (parts : List Part) → low ≤ from → All (IsBetween from to) parts → All (IsBetween low to) parts
All-wider from low to parts h all = λ k d below. let at = all k d below in record { first = omega arith; last = at.last }

lines_within : (n place : ℕ) (text : List ℕ) → length text ≤ n → All (IsBetween place (place + length text)) (lines_from place text)
lines_within n place [] h = All-nil (IsBetween place (place + 0))
lines_within zero place (b ∷ text) h = absurd (omega arith)
lines_within (suc n) place (b ∷ text) h =
    let whole = b ∷ text in
    let len = position_or_len (λ x. eqb x 10) whole in
    let m = min (length whole) (len + 1) in
    let line = strip_carriage_return (take len whole) in
    let some : 1 ≤ m = omega arith in
    let rest : length (drop m whole) ≡ length whole - m = length-drop m whole in
    let rec = lines_within n (place + m) (drop m whole) (omega arith) in
    let same : place + m + length (drop m whole) ≡ place + length whole = omega arith in
    All-same (IsBetween place (place + length whole)) _ _ (lines_from-first place whole len m refl refl (omega arith))
    (All-cons (IsBetween place (place + length whole)) (record { start = place; bytes = line }) (lines_from (place + m) (drop m whole))
    (record { first = omega arith; last = omega (arith, length-strip_carriage_return-le (take len whole), length-take len whole) })
    (All-wider (place + m) place (place + length whole) (lines_from (place + m) (drop m whole)) (omega arith) (subst (λ (e : ℕ). All (IsBetween (place + m) e) (lines_from (place + m) (drop m whole))) same rec)))

-- each line of a text stands in it
pub lines_from-within : (place : ℕ) (text : List ℕ) → All (IsBetween place (place + length text)) (lines_from place text)
lines_from-within place text = lines_within (length text) place text (omega arith)

pub lines_of-within : (text : List ℕ) → All (IsBetween 0 (length text)) (lines_of text)
lines_of-within text = subst (λ (e : ℕ). All (IsBetween 0 e) (lines_of text)) (omega arith) (lines_from-within 0 text)

abbrev blank_len : List ℕ → ℕ
blank_len text = position_or_len (λ b. not (is_blank_byte b)) text

words_within : (n place : ℕ) (text : List ℕ) → length text ≤ n → All (IsBetween place (place + length text)) (words_from place text)
words_within zero place text h = All-same (IsBetween place (place + length text)) (words_from place text) [] (ap (words_from place) (nil_from_length text (omega arith))) (All-nil (IsBetween place (place + length text)))
words_within (suc n) place text h =
    let k = blank_len text in
    let rest = drop k text in
    let len = position_or_len is_blank_byte rest in
    let within = position_or_len-le-length (λ b. not (is_blank_byte b)) text in
    let inside = position_or_len-le-length is_blank_byte rest in
    let rest_len : length rest ≡ length text - k = length-drop k text in
    elim (cases_lt 0 len) [
      | inr none ↦
          let zero_len : 0 ≡ len = omega arith in
          All-same (IsBetween place (place + length text)) (words_from place text) [] (words_from-nil place k place text rest (drop 0 rest) refl refl zero_len refl).0 (All-nil (IsBetween place (place + length text)))
      | inl some ↦
          let after = drop len rest in
          let after_len : length after ≡ length rest - len = length-drop len rest in
          let rec = words_within n (place + k + len) after (omega arith) in
          let same : place + k + len + length after ≡ place + length text = omega arith in
          All-same (IsBetween place (place + length text)) (words_from place text) (record { start = place + k; bytes = take len rest } ∷ words_from (place + k + len) after)
          (words_from-first place k len k len text rest (take len rest) after refl refl refl some refl refl refl refl)
          (All-cons (IsBetween place (place + length text)) (record { start = place + k; bytes = take len rest }) (words_from (place + k + len) after)
          (record { first = omega arith; last = omega (arith, length-take len rest) })
          (All-wider (place + k + len) place (place + length text) (words_from (place + k + len) after) (omega arith)
          (subst (λ (e : ℕ). All (IsBetween (place + k + len) e) (words_from (place + k + len) after)) same rec)))
    ]

-- each word of a line stands in it
pub words_from-within : (place : ℕ) (text : List ℕ) → All (IsBetween place (place + length text)) (words_from place text)
words_from-within place text = words_within (length text) place text (omega arith)
