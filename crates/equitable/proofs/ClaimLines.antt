-- The lines of a claim, from the steps on, and back.
use Rattle.std.proofs.Common.{◌≡◌, ℕ, ◌+◌, ◌≤◌, Bool, true, false, cond, List, [], ◌∷◌, ◌++◌, length, map, Option, Some, None, refl, sym, ap, ◌∙◌, arith, inl, inr}
use Rattle.std.specs.Prelude.{codes, bytes_eq}
use Rattle.std.specs.List.{AllByRecursion}
use Rattle.std.proofs.lemmas.Bool.{cases_Bool}
use Rattle.text_lines.specs.Joined.{spaced}
use Rattle.text_lines.specs.LineNumbers.{is_row_to, numbers_on}
use Rattle.text_lines.proofs.RowLines.{row_good, row_back}
use Rattle.text_lines.proofs.PointsLine.{bytes_same}
use Rattle.equitable.specs.declared.cell_steps.CellStep.{CellStep}
use Rattle.equitable.specs.declared.limits.TheConstants.{MOST_CELL}
use Rattle.equitable.specs.declared.text_faults.CellWord.{CellWord}
use Rattle.equitable.specs.CellText.{step_line}
use Rattle.equitable.specs.TextFault.{Place, at_body, at_cells, at_end, at_extra, is_step_line, fault_from, fault_on}
use Rattle.equitable.specs.ClaimText.{IsTextStep}
use Rattle.equitable.proofs.LineReadings.{step_in, step_good, step_other, step_back}

-- what follows a line where a step or the line `cells` is expected
abbrev pub body_next : ℕ → Bool → Bool → Option Place
body_next n ends step = cond ends (Some (at_cells n)) (cond step (Some (at_body n)) None)

abbrev pub body_on : ℕ → ℕ → List (List ℕ) → List ℕ → Option Place → Option (ℕ × CellWord)
body_on n line rest bytes next = fault_on line (at_body n) next (λ place. fault_from (line + 1) place rest)

-- a step where one is expected
pub step_clean : (n line : ℕ) (s : CellStep) (rest : List (List ℕ)) → IsTextStep s
    → fault_from line (at_body n) (step_line s ∷ rest) ≡ fault_from (line + 1) (at_body n) rest
step_clean n line s rest a =
    ap (λ b. body_on n line rest (step_line s) (body_next n b (is_step_line (step_line s)))) (step_other s)
    ∙ ap (λ b. body_on n line rest (step_line s) (body_next n false b)) (step_good s a).0

-- steps have no fault
pub steps_clean : (n line : ℕ) (steps : List CellStep) (rest : List (List ℕ)) → AllByRecursion IsTextStep steps
    → fault_from line (at_body n) (map step_line steps ++ rest) ≡ fault_from (line + length steps) (at_body n) rest
steps_clean n line [] rest a = ap (λ l. fault_from l (at_body n) rest) (omega arith)
steps_clean n line (s ∷ steps) rest a =
    step_clean n line s (map step_line steps ++ rest) a.0
    ∙ steps_clean n (line + 1) steps rest a.1
    ∙ ap (λ l. fault_from l (at_body n) rest) (omega arith)

-- and lines without a fault are steps and the line `cells`, with other lines after them
pub record BeginWithSteps (n : ℕ) (lines : List (List ℕ)) : Type 0 where
  pub steps : List CellStep
  pub line : ℕ
  pub rest : List (List ℕ)
  pub small : AllByRecursion IsTextStep steps
  pub are : lines ≡ map step_line steps ++ (codes "cells" ∷ rest)
  pub clean : fault_from line (at_cells n) rest ≡ None

pub steps_back : (n line : ℕ) (lines : List (List ℕ)) → fault_from line (at_body n) lines ≡ None → BeginWithSteps n lines
steps_back n line [] e = absurd cc
steps_back n line (bytes ∷ lines) e =
    let again = steps_back n (line + 1) lines in
    elim (cases_Bool (bytes_eq bytes (codes "cells"))) [
      | inl ends ↦ record {
        steps = [];
        line = line + 1;
        rest = lines;
        small = tt;
        are = ap (λ l. l ∷ lines) (bytes_same bytes (codes "cells") ends);
        clean = sym (ap (λ b. body_on n line lines bytes (body_next n b (is_step_line bytes))) ends) ∙ e;
      }
      | inr other ↦
          let rest = sym (ap (λ b. body_on n line lines bytes (body_next n b (is_step_line bytes))) other) ∙ e in
          elim (cases_Bool (is_step_line bytes)) [
            | inl t ↦
                let r = again (sym (ap (λ b. body_on n line lines bytes (body_next n false b)) t) ∙ rest) in
                let own = step_back bytes t in
                record {
                  steps = step_in bytes ∷ r.steps;
                  line = r.line;
                  rest = r.rest;
                  small = (own.small, r.small);
                  are = λ i. own.spelled i ∷ r.are i;
                  clean = r.clean;
                }
            | inr f ↦ let none = sym (ap (λ b. body_on n line lines bytes (body_next n false b)) f) ∙ rest in absurd cc
          ]
    ]

-- steps are those of one list
pub record SameSteps (xs ys : List CellStep) (us vs : List (List ℕ)) : Type 0 where
  pub steps : xs ≡ ys
  pub rest : us ≡ vs

-- a step line is not the line `cells`
not_cells : (s : CellStep) → step_line s ≡ codes "cells" → ⊥
not_cells s e = let z : true ≡ false = sym (ap (λ l. bytes_eq l (codes "cells")) e) ∙ step_other s in absurd cc

pub steps_same : (xs ys : List CellStep) (us vs : List (List ℕ)) → AllByRecursion IsTextStep xs → AllByRecursion IsTextStep ys
    → map step_line xs ++ (codes "cells" ∷ us) ≡ map step_line ys ++ (codes "cells" ∷ vs) → SameSteps xs ys us vs
steps_same [] [] us vs a b e = record { steps = refl; rest = cc }
steps_same [] (y ∷ ys) us vs a b e = let head : step_line y ≡ codes "cells" = cc in absurd (not_cells y head)
steps_same (x ∷ xs) [] us vs a b e = let head : step_line x ≡ codes "cells" = cc in absurd (not_cells x head)
steps_same (x ∷ xs) (y ∷ ys) us vs a b e =
    let head : step_line x ≡ step_line y = cc in
    let tail : map step_line xs ++ (codes "cells" ∷ us) ≡ map step_line ys ++ (codes "cells" ∷ vs) = cc in
    let again = steps_same xs ys us vs a.1 b.1 tail in
    let own : x ≡ y = sym (step_good x a.0).1 ∙ ap step_in head ∙ (step_good y b.0).1 in
    record { steps = λ i. own i ∷ again.steps i; rest = again.rest }

-- the row of the claimed cells and the line `end`
pub end_clean : (n line : ℕ) (cells : List ℕ) → 1 ≤ n → length cells ≡ n → AllByRecursion (λ cell. cell ≤ MOST_CELL) cells
    → fault_from line (at_cells n) (spaced cells ∷ codes "end" ∷ []) ≡ None
end_clean n line cells h e a =
    ap (λ b. fault_on line (at_cells n) (cond b (Some at_end) None) (λ place. fault_from (line + 1) place (codes "end" ∷ [])))
    (row_good MOST_CELL n cells (omega arith) h e a).0

pub record EndWithCells (n : ℕ) (lines : List (List ℕ)) : Type 0 where
  pub cells : List ℕ
  pub count : length cells ≡ n
  pub small : AllByRecursion (λ cell. cell ≤ MOST_CELL) cells
  pub are : lines ≡ spaced cells ∷ codes "end" ∷ []

-- nothing but the line `end` is left
only_end : (line : ℕ) (lines : List (List ℕ)) → fault_from line at_end lines ≡ None → lines ≡ codes "end" ∷ []
only_end line [] e = absurd cc
only_end line (bytes ∷ []) e = elim (cases_Bool (bytes_eq bytes (codes "end"))) [
  | inl t ↦ ap (λ l. l ∷ []) (bytes_same bytes (codes "end") t)
  | inr f ↦ let none = sym (ap (λ b. fault_on line at_end (cond b (Some at_extra) None) (λ place. fault_from (line + 1) place [])) f) ∙ e in absurd cc
]
only_end line (bytes ∷ more ∷ lines) e = elim (cases_Bool (bytes_eq bytes (codes "end"))) [
  | inl t ↦ let none = sym (ap (λ b. fault_on line at_end (cond b (Some at_extra) None) (λ place. fault_from (line + 1) place (more ∷ lines))) t)
      ∙ e in absurd cc
  | inr f ↦ let none = sym (ap (λ b. fault_on line at_end (cond b (Some at_extra) None) (λ place. fault_from (line + 1) place (more ∷ lines))) f)
      ∙ e in absurd cc
]

pub end_back : (n line : ℕ) (lines : List (List ℕ)) → fault_from line (at_cells n) lines ≡ None → EndWithCells n lines
end_back n line [] e = absurd cc
end_back n line (bytes ∷ lines) e = elim (cases_Bool (is_row_to MOST_CELL n bytes)) [
  | inl t ↦
      let rest = sym (ap (λ b. fault_on line (at_cells n) (cond b (Some at_end) None) (λ place. fault_from (line + 1) place lines)) t) ∙ e in
      let own = row_back MOST_CELL n bytes t in
      record { cells = numbers_on bytes; count = own.count; small = own.small; are = λ i. own.spelled i ∷ only_end (line + 1) lines rest i }
  | inr f ↦ let none = sym (ap (λ b. fault_on line (at_cells n) (cond b (Some at_end) None) (λ place. fault_from (line + 1) place lines)) f) ∙ e in absurd cc
]
