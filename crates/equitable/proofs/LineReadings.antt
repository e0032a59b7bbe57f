-- Step lines: from a line to the step that it is, and back.
use Rattle.std.proofs.Common.{◌≡◌, ℕ, ◌≤◌, true, false, List, [], ◌∷◌, length, get_or, map, refl, sym, ap, subst, ◌∙◌, arith}
use Rattle.std.specs.Prelude.{codes, decimal, bytes_eq}
use Rattle.std.specs.List.{AllByRecursion, join_with_byte}
use Rattle.std.proofs.lemmas.Bool.{and_from}
use Rattle.std.proofs.lemmas.List.{append_assoc}
use Rattle.text_lines.specs.LineNumbers.{between_spaces, are_numbers, value}
use Rattle.text_lines.proofs.LineNumbers.{both, split_join, join_split, value-decimal, WriteTo, write_values, are_numbers-decimal, small_numbers, decimals_no_space}
use Rattle.text_lines.proofs.PointsLine.{bytes_same}
use Rattle.equitable.specs.declared.cell_steps.CellStep.{CellStep}
use Rattle.equitable.specs.declared.limits.TheConstants.{MOST_CELL}
use Rattle.equitable.specs.CellText.{step_line}
use Rattle.equitable.specs.TextFault.{are_step_words, is_step_line}
use Rattle.equitable.specs.ClaimText.{IsTextStep}

-- the step that words say
abbrev pub step_of : List (List ℕ) → CellStep
step_of (letter ∷ c ∷ i ∷ []) = record { cell = value c; into = value i }
step_of _ = record { cell = 0; into = 0 }

-- the step of a line
abbrev pub step_in : List ℕ → CellStep
step_in line = step_of (between_spaces line)

-- its words
abbrev pub step_words : CellStep → List (List ℕ)
step_words s = codes "S" ∷ decimal s.cell ∷ decimal s.into ∷ []

abbrev step_numbers : CellStep → List ℕ
step_numbers s = s.cell ∷ s.into ∷ []

pub step_line-words : (s : CellStep) → step_line s ≡ join_with_byte 32 (step_words s)
step_line-words s = ap (λ l. 83 ∷ 32 ∷ l) (append_assoc (decimal s.cell) (codes " ") (decimal s.into))

steps_within : (s : CellStep) → IsTextStep s → AllByRecursion (λ c. c ≤ MOST_CELL) (step_numbers s)
steps_within s a = (a.cell, (a.into, tt))

step_cut : (s : CellStep) → IsTextStep s → between_spaces (step_line s) ≡ step_words s
step_cut s a =
    ap between_spaces (step_line-words s)
    ∙ split_join (codes "S") (map decimal (step_numbers s)) (refl, tt)
    (decimals_no_space (step_numbers s) (small_numbers MOST_CELL (omega arith) (step_numbers s) (steps_within s a)))

pub step_good : (s : CellStep) → IsTextStep s → (is_step_line (step_line s) ≡ true) × (step_in (step_line s) ≡ s)
step_good s a = (
  ap are_step_words (step_cut s a) ∙ are_numbers-decimal MOST_CELL 2 (step_numbers s) (omega arith) refl (steps_within s a),
  ap step_of (step_cut s a) ∙ (λ i. record { cell = value-decimal s.cell (omega (arith, a.cell)) i; into = value-decimal s.into (omega (arith, a.into)) i }),
)

-- a step line is not the line `cells`
pub step_other : (s : CellStep) → bytes_eq (step_line s) (codes "cells") ≡ false
step_other s = refl

-- the words are those of the step that they say
pub record AreStepWords (words : List (List ℕ)) : Type 0 where
  pub spelled : words ≡ step_words (step_of words)
  pub small : IsTextStep (step_of words)

lettered : (word : List ℕ) (words : List (List ℕ)) → are_step_words (word ∷ words) ≡ true → (word ≡ codes "S") × WriteTo MOST_CELL 2 words (map value words)
lettered word words h =
    let two = both (bytes_eq word (codes "S")) (are_numbers MOST_CELL 2 words) h in
    (bytes_same word (codes "S") two.0, write_values MOST_CELL 2 words two.1)

words_back : (words : List (List ℕ)) → are_step_words words ≡ true → AreStepWords words
words_back [] h = absurd cc
words_back (word ∷ []) h = absurd (omega (arith, (lettered word [] h).1.count))
words_back (word ∷ c ∷ []) h = absurd (omega (arith, (lettered word (c ∷ []) h).1.count))
words_back (word ∷ c ∷ i ∷ []) h =
    let b = lettered word (c ∷ i ∷ []) h in
    record { spelled = λ j. b.0 j ∷ b.1.spelled j; small = record { cell = b.1.small.0; into = b.1.small.1.0 } }
words_back (word ∷ c ∷ i ∷ k ∷ ws) h = absurd (omega (arith, (lettered word (c ∷ i ∷ k ∷ ws) h).1.count))

-- the line is that of the step, whose numbers are within the limit
pub record IsLineOf (line : List ℕ) (s : CellStep) : Type 0 where
  pub spelled : line ≡ step_line s
  pub small : IsTextStep s

pub step_back : (line : List ℕ) → is_step_line line ≡ true → IsLineOf line (step_in line)
step_back line h =
    let w = words_back (between_spaces line) h in
    record { spelled = sym (join_split line) ∙ ap (join_with_byte 32) w.spelled ∙ sym (step_line-words (step_in line)); small = w.small }

-- the words of a step line, and the numbers that were read of them
pub step_read : (line word : List ℕ) (words : List (List ℕ)) (numbers : List ℕ) (c i : ℕ) → between_spaces line ≡ word ∷ words
    → bytes_eq word (codes "S") ≡ true → are_numbers MOST_CELL 2 words ≡ true
    → numbers ≡ map value words → c ≡ get_or numbers 0 0 → i ≡ get_or numbers 1 0
    → (line ≡ step_line (record { cell = c; into = i })) × IsTextStep (record { cell = c; into = i })
step_read line word words numbers c i cut letter test is first second =
    let good : is_step_line line ≡ true = ap are_step_words cut ∙ and_from (bytes_eq word (codes "S")) (are_numbers MOST_CELL 2 words) letter test in
    let back = step_back line good in
    let said : step_in line ≡ record { cell = c; into = i } = ap step_of cut ∙ two words (write_values MOST_CELL 2 words test).count is in
    (back.spelled ∙ ap step_line said, subst IsTextStep said back.small)
  where
    two : (ws : List (List ℕ)) → length (map value ws) ≡ 2 → numbers ≡ map value ws → step_of (word ∷ ws) ≡ record { cell = c; into = i }
    two [] e n = absurd (omega (arith, e))
    two (v ∷ []) e n = absurd (omega (arith, e))
    two (v ∷ w ∷ []) e n = λ j. record { cell = (sym (first ∙ ap (λ ns. get_or ns 0 0) n)) j; into = (sym (second ∙ ap (λ ns. get_or ns 1 0) n)) j }
    two (v ∷ w ∷ x ∷ ws) e n = absurd (omega (arith, e))
