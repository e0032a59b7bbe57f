-- The first line of a text, and what is left after it.
use Rattle.std.proofs.Common.{◌≡◌, ℕ, ◌+◌, ◌<◌, min, cond, Bool, false, eqb, List, [], ◌∷◌, length, take, drop, map, refl, sym, ap, subst, ◌∙◌, arith, inl, inr}
use Rattle.std.specs.List.{slice_split, position_or_len}
use Rattle.std.proofs.lemmas.List.{take_all, drop_all, length-take-le}
use Rattle.std.proofs.lemmas.List.Splits.{slice_split_first, length-slice_split}
use Rattle.std.proofs.lemmas.Bool.{ne_eqb, cases_lt}
use Rattle.std.specs.Str.Lines.{strip_carriage_return}
use Rattle.text_lines.specs.Part.{Part, placed}
use Rattle.text_lines.specs.Lines.{lines_from, without_empty_end, without_return}
use Rattle.text_lines.proofs.FirstPlace.{position_or_len-le-length, slice_split_whole}

abbrev is_feed : ℕ → Bool
is_feed b = eqb b 10

-- the first part is no end of a text that goes on
not_the_end : (place : ℕ) (part : Part) (parts : List (List ℕ)) → 0 < length parts → without_empty_end (part ∷ placed place parts) ≡ part ∷ without_empty_end (placed place parts)
not_the_end place part [] h = absurd (omega arith)
not_the_end place part (next ∷ parts) h = refl

cut : (place : ℕ) (text : List ℕ) (n : ℕ) → n ≡ position_or_len is_feed text → n < length text
    → lines_from place text ≡ without_return (record { start = place; bytes = take n text }) ∷ lines_from (place + (n + 1)) (drop (n + 1) text)
cut place text n e h =
    let rest = slice_split is_feed (drop (n + 1) text) in
    let split : slice_split is_feed text ≡ take n text ∷ rest = subst (λ (k : ℕ). slice_split is_feed text ≡ take k text ∷ slice_split is_feed (drop (k + 1) text)) (sym e) (slice_split_first is_feed text 0 (omega arith)) in
    let some : 0 < length rest = omega (arith, length-slice_split is_feed (drop (n + 1) text)) in
    let len : length (take n text) ≡ n = length-take-le n text (omega arith) in
    let after : place + length (take n text) + 1 ≡ place + (n + 1) = omega arith in
    ap (λ parts. map without_return (without_empty_end (placed place parts))) split
    ∙ ap (map without_return) (not_the_end (place + length (take n text) + 1) (record { start = place; bytes = take n text }) rest some)
    ∙ ap (λ q. without_return (record { start = place; bytes = take n text }) ∷ map without_return (without_empty_end (placed q rest))) after

not_empty : (part : Part) → 0 < length part.bytes → without_empty_end (part ∷ []) ≡ part ∷ []
not_empty part h = let e : eqb (length part.bytes) 0 ≡ false = ne_eqb (length part.bytes) 0 (λ z. omega arith) in ap (λ b. cond b [] (part ∷ [])) e

whole : (place : ℕ) (text : List ℕ) → position_or_len is_feed text ≡ length text → 0 < length text
    → lines_from place text ≡ without_return (record { start = place; bytes = text }) ∷ []
whole place text e h =
    ap (λ parts. map without_return (without_empty_end (placed place parts))) (slice_split_whole is_feed text e)
    ∙ ap (map without_return) (not_empty (record { start = place; bytes = text }) h)

-- a text that is not empty begins with a line, and goes on after its line feed, if it has one
pub lines_from-first : (place : ℕ) (text : List ℕ) (n m : ℕ) → n ≡ position_or_len is_feed text → m ≡ min (length text) (n + 1) → 0 < length text
    → lines_from place text ≡ without_return (record { start = place; bytes = take n text }) ∷ lines_from (place + m) (drop m text)
lines_from-first place text n m e f h = elim (cases_lt n (length text)) [
  | inl inside ↦ let g : m ≡ n + 1 = omega arith in rw g (cut place text n e inside)
  | inr past ↦
      let within = position_or_len-le-length is_feed text in
      let all : m ≡ length text = omega arith in
      whole place text (omega arith) h
      ∙ ap (λ part. without_return (record { start = place; bytes = part }) ∷ []) (sym (take_all n text past))
      ∙ ap (λ rest. without_return (record { start = place; bytes = take n text }) ∷ lines_from (place + m) rest) (sym (drop_all m text (omega arith)))
]

-- the step of the iterator
pub lines_from-step : (place : ℕ) (text : List ℕ) (n m : ℕ) (line rest : List ℕ) → n ≡ position_or_len is_feed text → m ≡ min (length text) (n + 1) → 0 < length text
    → line ≡ strip_carriage_return (take n text) → rest ≡ drop m text → lines_from place text ≡ record { start = place; bytes = line } ∷ lines_from (place + m) rest
lines_from-step place text n m line rest e f h g i = rw (g, i) (lines_from-first place text n m e f h)
