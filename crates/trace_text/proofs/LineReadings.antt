-- From the lines of a trace to what they say, and back: line by line.
use Rattle.std.proofs.Common.{◌≡◌, ◌&&◌, ◌||◌, ℕ, zero, suc, Bool, true, false, cond, eqb, List, [], ◌∷◌, ◌++◌, map, Some, None, refl, sym, ap, subst, ◌∙◌, arith, ◌⊎◌, inl, inr}
use Rattle.std.specs.Prelude.{codes, decimal, unwrap_or, bytes_eq}
use Rattle.std.specs.List.{join_with_byte}
use Rattle.std.proofs.lemmas.Bool.{cases_Bool, eq-eqb, eqb-true}
use Rattle.std.proofs.lemmas.Fmt.{decimal_digit}
use Rattle.std.proofs.lemmas.List.{append-nil}
use Rattle.trace_text.specs.declared.step_list.Step.{Step}
use Rattle.trace_text.specs.declared.step_list.Step.TheVariants.{Diag, Flip, Tri, Round}
use Rattle.trace_text.specs.Split.{numbers_of}
use Rattle.trace_text.specs.declared.limits.TheConstants.{MOST_STEP_NUMBER}
use Rattle.trace_text.specs.TraceText.{step_line, letter_of}
use Rattle.trace_text.specs.TraceFault.{is_lettered, is_step_line, version_on}
use Rattle.trace_text.specs.Versions.{IsVersion}
use Rattle.trace_text.specs.ClaimTexts.{IsTraceStep}
use Rattle.text_lines.specs.LineNumbers.{between_spaces, are_numbers, value}
use Rattle.text_lines.proofs.LineNumbers.{both, HasNoSpace, split_join, join_split, value-decimal, WriteTo, write_values, are_numbers-decimal, small_numbers, decimals_no_space}
use Rattle.text_lines.proofs.PointsLine.{bytes_same, some_from}

-- the step that words say
abbrev pub step_of : List (List ℕ) → Step
step_of (letter ∷ []) = Round
step_of (letter ∷ k ∷ []) = Diag (value k)
step_of (letter ∷ k ∷ i ∷ []) = Flip (value k) (value i)
step_of (letter ∷ k ∷ i ∷ j ∷ []) = Tri (value k) (value i) (value j)
step_of _ = Diag 0

-- the step of a line
abbrev pub step_in : List ℕ → Step
step_in line = step_of (between_spaces line)

-- its words
abbrev pub step_words : Step → List (List ℕ)
step_words s = letter_of s ∷ map decimal (numbers_of s)

pub step_line-words : (s : Step) → step_line s ≡ join_with_byte 32 (step_words s)
step_line-words (Diag k) = ap (λ l. 68 ∷ 32 ∷ l) (append-nil (decimal k))
step_line-words (Flip k o) = ap (λ l. 70 ∷ 32 ∷ (decimal k ++ (32 ∷ l))) (append-nil (decimal o))
step_line-words (Tri k l r) = ap (λ m. 84 ∷ 32 ∷ (decimal k ++ (32 ∷ (decimal l ++ (32 ∷ m))))) (append-nil (decimal r))
step_line-words Round = refl

step_cut : (v : ℕ) (s : Step) → IsTraceStep v s → between_spaces (step_line s) ≡ step_words s
step_cut v s a = ap between_spaces (step_line-words s) ∙ split_join (letter_of s) (map decimal (numbers_of s)) (letter_no_space s) (decimals_no_space (numbers_of s) (small_numbers MOST_STEP_NUMBER (omega arith) (numbers_of s) a.numbers))
  where
    letter_no_space : (t : Step) → HasNoSpace (letter_of t)
    letter_no_space (Diag k) = (refl, tt)
    letter_no_space (Flip k i) = (refl, tt)
    letter_no_space (Tri k i j) = (refl, tt)
    letter_no_space Round = (refl, tt)

-- the words of a step line of a version
abbrev pub is_step : ℕ → List (List ℕ) → Bool
is_step v words = is_lettered (codes "D") 1 words || is_lettered (codes "F") 2 words || is_lettered (codes "T") 3 words || (is_lettered (codes "R") 0 words && eqb v 2)

step_words-good : (v : ℕ) (s : Step) → IsTraceStep v s → is_step v (step_words s) ≡ true
step_words-good v (Diag k) a = let e = are_numbers-decimal MOST_STEP_NUMBER 1 (k ∷ []) (omega arith) refl a.numbers in rw e refl
step_words-good v (Flip k i) a = let e = are_numbers-decimal MOST_STEP_NUMBER 2 (k ∷ i ∷ []) (omega arith) refl a.numbers in rw e refl
step_words-good v (Tri k i j) a = let e = are_numbers-decimal MOST_STEP_NUMBER 3 (k ∷ i ∷ j ∷ []) (omega arith) refl a.numbers in rw e refl
step_words-good v Round a = eq-eqb v 2 a.known

step_of-words : (v : ℕ) (s : Step) → IsTraceStep v s → step_of (step_words s) ≡ s
step_of-words v (Diag k) a = λ i. Diag (value-decimal k (omega (arith, a.numbers.0)) i)
step_of-words v (Flip k o) a = λ i. Flip (value-decimal k (omega (arith, a.numbers.0)) i) (value-decimal o (omega (arith, a.numbers.1.0)) i)
step_of-words v (Tri k l r) a = λ i. Tri (value-decimal k (omega (arith, a.numbers.0)) i) (value-decimal l (omega (arith, a.numbers.1.0)) i) (value-decimal r (omega (arith, a.numbers.1.1.0)) i)
step_of-words v Round a = refl

pub step_good : (v : ℕ) (s : Step) → IsTraceStep v s → (is_step_line v (step_line s) ≡ true) × (step_in (step_line s) ≡ s)
step_good v s a = (ap (is_step v) (step_cut v s a) ∙ step_words-good v s a, ap step_of (step_cut v s a) ∙ step_of-words v s a)

-- a step line is none of the other lines of a body
pub step_other : (s : Step) → (bytes_eq (step_line s) (codes "stage") ≡ false) × (bytes_eq (step_line s) (codes "closure") ≡ false)
step_other (Diag k) = (refl, refl)
step_other (Flip k i) = (refl, refl)
step_other (Tri k i j) = (refl, refl)
step_other Round = (refl, refl)

or_from : (a b : Bool) → (a || b) ≡ true → (a ≡ true) ⊎ (b ≡ true)
or_from true b h = inl refl
or_from false b h = inr h

-- the words are those of the step that they say, which the version has
pub record AreStepWords (v : ℕ) (words : List (List ℕ)) : Type 0 where
  pub spelled : words ≡ step_words (step_of words)
  pub small : IsTraceStep v (step_of words)

lettered : (letter : List ℕ) (n : ℕ) (word : List ℕ) (words : List (List ℕ)) → is_lettered letter n (word ∷ words) ≡ true → (word ≡ letter) × WriteTo MOST_STEP_NUMBER n words (map value words)
lettered letter n word words h =
    let two = both (bytes_eq word letter) (are_numbers MOST_STEP_NUMBER n words) h in
    (bytes_same word letter two.0, write_values MOST_STEP_NUMBER n words two.1)

diag_back : (v : ℕ) (word : List ℕ) (words : List (List ℕ)) → is_lettered (codes "D") 1 (word ∷ words) ≡ true → AreStepWords v (word ∷ words)
diag_back v word [] h = absurd (omega (arith, (lettered (codes "D") 1 word [] h).1.count))
diag_back v word (k ∷ []) h = let b = lettered (codes "D") 1 word (k ∷ []) h in record { spelled = λ i. b.0 i ∷ b.1.spelled i; small = record { known = tt; numbers = b.1.small } }
diag_back v word (k ∷ l ∷ ws) h = absurd (omega (arith, (lettered (codes "D") 1 word (k ∷ l ∷ ws) h).1.count))

flip_back : (v : ℕ) (word : List ℕ) (words : List (List ℕ)) → is_lettered (codes "F") 2 (word ∷ words) ≡ true → AreStepWords v (word ∷ words)
flip_back v word [] h = absurd (omega (arith, (lettered (codes "F") 2 word [] h).1.count))
flip_back v word (k ∷ []) h = absurd (omega (arith, (lettered (codes "F") 2 word (k ∷ []) h).1.count))
flip_back v word (k ∷ l ∷ []) h =
    let b = lettered (codes "F") 2 word (k ∷ l ∷ []) h in record { spelled = λ i. b.0 i ∷ b.1.spelled i; small = record { known = tt; numbers = b.1.small } }
flip_back v word (k ∷ l ∷ m ∷ ws) h = absurd (omega (arith, (lettered (codes "F") 2 word (k ∷ l ∷ m ∷ ws) h).1.count))

tri_back : (v : ℕ) (word : List ℕ) (words : List (List ℕ)) → is_lettered (codes "T") 3 (word ∷ words) ≡ true → AreStepWords v (word ∷ words)
tri_back v word [] h = absurd (omega (arith, (lettered (codes "T") 3 word [] h).1.count))
tri_back v word (k ∷ []) h = absurd (omega (arith, (lettered (codes "T") 3 word (k ∷ []) h).1.count))
tri_back v word (k ∷ l ∷ []) h = absurd (omega (arith, (lettered (codes "T") 3 word (k ∷ l ∷ []) h).1.count))
tri_back v word (k ∷ l ∷ m ∷ []) h =
    let b = lettered (codes "T") 3 word (k ∷ l ∷ m ∷ []) h in record { spelled = λ i. b.0 i ∷ b.1.spelled i; small = record { known = tt; numbers = b.1.small } }
tri_back v word (k ∷ l ∷ m ∷ o ∷ ws) h = absurd (omega (arith, (lettered (codes "T") 3 word (k ∷ l ∷ m ∷ o ∷ ws) h).1.count))

round_back : (v : ℕ) (word : List ℕ) (words : List (List ℕ)) → is_lettered (codes "R") 0 (word ∷ words) ≡ true → v ≡ 2 → AreStepWords v (word ∷ words)
round_back v word [] h e = record { spelled = λ i. (lettered (codes "R") 0 word [] h).0 i ∷ []; small = record { known = e; numbers = tt } }
round_back v word (k ∷ ws) h e = absurd (omega (arith, (lettered (codes "R") 0 word (k ∷ ws) h).1.count))

words_back : (v : ℕ) (words : List (List ℕ)) → is_step v words ≡ true → AreStepWords v words
words_back v [] h = absurd cc
words_back v (word ∷ words) h =
    let d = is_lettered (codes "D") 1 (word ∷ words) in
    let f = is_lettered (codes "F") 2 (word ∷ words) in
    let t = is_lettered (codes "T") 3 (word ∷ words) in
    let r = is_lettered (codes "R") 0 (word ∷ words) in
    elim (or_from (d || f || t) (r && eqb v 2) h) [
      | inl dft ↦ elim (or_from (d || f) t dft) [
        | inl df ↦ elim (or_from d f df) [
          | inl is_d ↦ diag_back v word words is_d
          | inr is_f ↦ flip_back v word words is_f
        ]
        | inr is_t ↦ tri_back v word words is_t
      ]
      | inr is_r ↦ let two = both r (eqb v 2) is_r in round_back v word words two.0 (eqb-true v 2 two.1)
    ]

-- the line is that of the step, which the version has and whose numbers are within the limit
pub record IsLineOf (v : ℕ) (line : List ℕ) (s : Step) : Type 0 where
  pub spelled : line ≡ step_line s
  pub small : IsTraceStep v s

pub step_back : (v : ℕ) (line : List ℕ) → is_step_line v line ≡ true → IsLineOf v line (step_in line)
step_back v line h =
    let w = words_back v (between_spaces line) h in
    record { spelled = sym (join_split line) ∙ ap (join_with_byte 32) w.spelled ∙ sym (step_line-words (step_in line)); small = w.small }

-- the first line
pub version_good : (v : ℕ) → IsVersion v → version_on (codes "trace " ++ decimal v) ≡ Some v
version_good zero h = absurd (omega (arith, h.least))
version_good (suc zero) h = ap (λ d. version_on (codes "trace " ++ d)) (decimal_digit 1 (omega arith))
version_good (suc (suc zero)) h = ap (λ d. version_on (codes "trace " ++ d)) (decimal_digit 2 (omega arith))
version_good (suc (suc (suc n))) h = absurd (omega (arith, h.most))

-- the line tells version v
pub record IsVersionLine (line : List ℕ) (v : ℕ) : Type 0 where
  pub spelled : line ≡ codes "trace " ++ decimal v
  pub known : IsVersion v

version_told : (line : List ℕ) (v n : ℕ) → IsVersion n → line ≡ codes "trace " ++ decimal n → n ≡ v → IsVersionLine line v
version_told line v n h spelled is = subst (IsVersionLine line) is (record { spelled = spelled; known = h })

pub version_back : (line : List ℕ) (v : ℕ) → version_on line ≡ Some v → IsVersionLine line v
version_back line v e =
    let a = bytes_eq line (codes "trace 1") in
    let b = bytes_eq line (codes "trace 2") in
    elim (cases_Bool a) [
      | inl one ↦
          let is : Some 1 ≡ Some v = sym (ap (λ t. cond t (Some 1) (cond b (Some 2) None)) one) ∙ e in
          version_told line v 1 (record { least = omega arith; most = omega arith }) (bytes_same line (codes "trace 1") one ∙ ap (λ d. codes "trace " ++ d) (sym (decimal_digit 1 (omega arith)))) (ap (λ o. unwrap_or o 0) is)
      | inr other ↦
          let found = some_from b (Some 2) v (sym (ap (λ t. cond t (Some 1) (cond b (Some 2) None)) other) ∙ e) in
          version_told line v 2 (record { least = omega arith; most = omega arith }) (bytes_same line (codes "trace 2") found.0 ∙ ap (λ d. codes "trace " ++ d) (sym (decimal_digit 2 (omega arith)))) (ap (λ o. unwrap_or o 0) found.1)
    ]
