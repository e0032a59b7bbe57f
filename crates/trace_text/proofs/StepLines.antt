-- Step lines from their words.
use Rattle.std.proofs.Common.{◌≡◌, ℕ, ◌<◌, ◌||◌, ◌&&◌, Bool, true, false, eqb, List, [], ◌∷◌, take, map, get_or, refl, sym, ap, subst, ◌∙◌, arith}
use Rattle.std.specs.Prelude.{codes, bytes_eq}
use Rattle.std.proofs.lemmas.Bool.{and_from, eq-eqb}
use Rattle.std.proofs.lemmas.List.{get_or-take}
use Rattle.trace_text.specs.declared.step_list.Step.{Step}
use Rattle.trace_text.specs.declared.step_list.Step.TheVariants.{Diag, Flip, Tri, Round}
use Rattle.trace_text.specs.declared.limits.TheConstants.{MOST_STEP_NUMBER}
use Rattle.trace_text.specs.TraceFault.{is_lettered}
use Rattle.trace_text.proofs.LineReadings.{is_step, step_of, step_back, IsLineOf}
use Rattle.text_lines.specs.LineNumbers.{between_spaces, are_numbers, value}
use Rattle.text_lines.proofs.LineNumbers.{write_values}

or-first : (a b c d : Bool) → a ≡ true → (a || b || c || d) ≡ true
or-first true b c d e = refl
or-first false b c d e = absurd cc

or-second : (a b c d : Bool) → b ≡ true → (a || b || c || d) ≡ true
or-second true b c d e = refl
or-second false true c d e = refl
or-second false false c d e = absurd cc

or-third : (a b c d : Bool) → c ≡ true → (a || b || c || d) ≡ true
or-third true b c d e = refl
or-third false true c d e = refl
or-third false false true d e = refl
or-third false false false d e = absurd cc

or-last : (a b : Bool) → b ≡ true → (a || b) ≡ true
or-last true b e = refl
or-last false b e = e

at_front : (n i : ℕ) (numbers values : List ℕ) → take n numbers ≡ values → i < n → get_or values i 0 ≡ get_or numbers i 0
at_front n i numbers values e h = sym (ap (λ l. get_or l i 0) e) ∙ get_or-take n numbers i 0 h

line_is : (v : ℕ) (line : List ℕ) (words : List (List ℕ)) (s : Step) → between_spaces line ≡ words → is_step v words ≡ true → step_of words ≡ s → IsLineOf v line s
line_is v line words s cut good is = subst (IsLineOf v line) (ap step_of cut ∙ is) (step_back v line (ap (is_step v) cut ∙ good))

pub diag_read : (v : ℕ) (line letter : List ℕ) (ws : List (List ℕ)) (numbers : List ℕ) → between_spaces line ≡ letter ∷ ws → bytes_eq letter (codes "D") ≡ true → are_numbers MOST_STEP_NUMBER 1 ws ≡ true → take 1 numbers ≡ map value ws
    → IsLineOf v line (Diag (get_or numbers 0 0))
diag_read v line letter [] numbers cut l a t = absurd (omega (arith, (write_values MOST_STEP_NUMBER 1 [] a).count))
diag_read v line letter (k ∷ []) numbers cut l a t =
    let ws = k ∷ [] in
    line_is v line (letter ∷ ws) (Diag (get_or numbers 0 0)) cut
    (or-first (is_lettered (codes "D") 1 (letter ∷ ws)) (is_lettered (codes "F") 2 (letter ∷ ws)) (is_lettered (codes "T") 3 (letter ∷ ws)) (is_lettered (codes "R") 0 (letter ∷ ws) && eqb v 2) (and_from (bytes_eq letter (codes "D")) (are_numbers MOST_STEP_NUMBER 1 ws) l a))
    (ap Diag (at_front 1 0 numbers (map value ws) t (omega arith)))
diag_read v line letter (k ∷ m ∷ ws) numbers cut l a t = absurd (omega (arith, (write_values MOST_STEP_NUMBER 1 (k ∷ m ∷ ws) a).count))

pub flip_read : (v : ℕ) (line letter : List ℕ) (ws : List (List ℕ)) (numbers : List ℕ) → between_spaces line ≡ letter ∷ ws → bytes_eq letter (codes "F") ≡ true → are_numbers MOST_STEP_NUMBER 2 ws ≡ true → take 2 numbers ≡ map value ws
    → IsLineOf v line (Flip (get_or numbers 0 0) (get_or numbers 1 0))
flip_read v line letter [] numbers cut l a t = absurd (omega (arith, (write_values MOST_STEP_NUMBER 2 [] a).count))
flip_read v line letter (k ∷ []) numbers cut l a t = absurd (omega (arith, (write_values MOST_STEP_NUMBER 2 (k ∷ []) a).count))
flip_read v line letter (k ∷ m ∷ []) numbers cut l a t =
    let ws = k ∷ m ∷ [] in
    line_is v line (letter ∷ ws) (Flip (get_or numbers 0 0) (get_or numbers 1 0)) cut
    (or-second (is_lettered (codes "D") 1 (letter ∷ ws)) (is_lettered (codes "F") 2 (letter ∷ ws)) (is_lettered (codes "T") 3 (letter ∷ ws)) (is_lettered (codes "R") 0 (letter ∷ ws) && eqb v 2) (and_from (bytes_eq letter (codes "F")) (are_numbers MOST_STEP_NUMBER 2 ws) l a))
    (λ i. Flip (at_front 2 0 numbers (map value ws) t (omega arith) i) (at_front 2 1 numbers (map value ws) t (omega arith) i))
flip_read v line letter (k ∷ m ∷ o ∷ ws) numbers cut l a t = absurd (omega (arith, (write_values MOST_STEP_NUMBER 2 (k ∷ m ∷ o ∷ ws) a).count))

pub tri_read : (v : ℕ) (line letter : List ℕ) (ws : List (List ℕ)) (numbers : List ℕ) → between_spaces line ≡ letter ∷ ws → bytes_eq letter (codes "T") ≡ true → are_numbers MOST_STEP_NUMBER 3 ws ≡ true → take 3 numbers ≡ map value ws
    → IsLineOf v line (Tri (get_or numbers 0 0) (get_or numbers 1 0) (get_or numbers 2 0))
tri_read v line letter [] numbers cut l a t = absurd (omega (arith, (write_values MOST_STEP_NUMBER 3 [] a).count))
tri_read v line letter (k ∷ []) numbers cut l a t = absurd (omega (arith, (write_values MOST_STEP_NUMBER 3 (k ∷ []) a).count))
tri_read v line letter (k ∷ m ∷ []) numbers cut l a t = absurd (omega (arith, (write_values MOST_STEP_NUMBER 3 (k ∷ m ∷ []) a).count))
tri_read v line letter (k ∷ m ∷ o ∷ []) numbers cut l a t =
    let ws = k ∷ m ∷ o ∷ [] in
    line_is v line (letter ∷ ws) (Tri (get_or numbers 0 0) (get_or numbers 1 0) (get_or numbers 2 0)) cut
    (or-third (is_lettered (codes "D") 1 (letter ∷ ws)) (is_lettered (codes "F") 2 (letter ∷ ws)) (is_lettered (codes "T") 3 (letter ∷ ws)) (is_lettered (codes "R") 0 (letter ∷ ws) && eqb v 2) (and_from (bytes_eq letter (codes "T")) (are_numbers MOST_STEP_NUMBER 3 ws) l a))
    (λ i. Tri (at_front 3 0 numbers (map value ws) t (omega arith) i) (at_front 3 1 numbers (map value ws) t (omega arith) i) (at_front 3 2 numbers (map value ws) t (omega arith) i))
tri_read v line letter (k ∷ m ∷ o ∷ p ∷ ws) numbers cut l a t = absurd (omega (arith, (write_values MOST_STEP_NUMBER 3 (k ∷ m ∷ o ∷ p ∷ ws) a).count))

pub round_read : (v : ℕ) (line letter : List ℕ) (ws : List (List ℕ)) → between_spaces line ≡ letter ∷ ws → bytes_eq letter (codes "R") ≡ true → are_numbers MOST_STEP_NUMBER 0 ws ≡ true → v ≡ 2 → IsLineOf v line Round
round_read v line letter [] cut l a e =
    let ws : List (List ℕ) = [] in
    line_is v line (letter ∷ ws) Round cut
    (or-last (is_lettered (codes "D") 1 (letter ∷ ws) || is_lettered (codes "F") 2 (letter ∷ ws) || is_lettered (codes "T") 3 (letter ∷ ws)) (is_lettered (codes "R") 0 (letter ∷ ws) && eqb v 2)
    (and_from (is_lettered (codes "R") 0 (letter ∷ ws)) (eqb v 2) (and_from (bytes_eq letter (codes "R")) (are_numbers MOST_STEP_NUMBER 0 ws) l a) (eq-eqb v 2 e)))
    refl
round_read v line letter (k ∷ ws) cut l a e = absurd (omega (arith, (write_values MOST_STEP_NUMBER 0 (k ∷ ws) a).count))
