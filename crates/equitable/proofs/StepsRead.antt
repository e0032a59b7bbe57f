-- Steps that are read line by line.
use Rattle.std.proofs.Common.{◌≡◌, ℕ, ◌+◌, ◌≤◌, true, false, List, [], ◌∷◌, ◌++◌, length, map, Some, refl, sym, ap, subst, ◌∙◌, arith}
use Rattle.std.specs.Prelude.{codes, bytes_eq}
use Rattle.std.specs.List.{AllByRecursion}
use Rattle.std.proofs.lemmas.List.{append_assoc, map-append, length-append}
use Rattle.pair_colours.proofs.ListLemmas.{Each-append}
use Rattle.text_lines.proofs.PointsLine.{bytes_same}
use Rattle.equitable.specs.declared.cell_steps.CellStep.{CellStep}
use Rattle.equitable.specs.declared.text_faults.CellWord.TheVariants.{Body}
use Rattle.equitable.specs.CellText.{step_line}
use Rattle.equitable.specs.TextFault.{at_body, at_cells, is_step_line, fault_from}
use Rattle.equitable.specs.ClaimText.{IsTextStep}
use Rattle.equitable.proofs.ClaimLines.{body_next, body_on, step_clean}

-- these steps were read, and nothing that ends them
pub record ReadsSteps (line0 : ℕ) (lines0 : List (List ℕ)) (line : ℕ) (lines : List (List ℕ)) (steps : List CellStep) : Type 0 where
  pub lines_are : lines0 ≡ map step_line steps ++ lines
  pub small : AllByRecursion IsTextStep steps
  pub count : length steps ≤ line
  pub faults : (n : ℕ) → fault_from line0 (at_body n) lines0 ≡ fault_from line (at_body n) lines

pub steps_start : (line : ℕ) (lines : List (List ℕ)) → ReadsSteps line lines line lines []
steps_start line lines = record { lines_are = refl; small = tt; count = omega arith; faults = λ n. refl }

pub steps_more : (line0 : ℕ) (lines0 : List (List ℕ)) (line next : ℕ) (lines rest : List (List ℕ)) (steps more : List CellStep) (bytes : List ℕ)
    (s : CellStep) → ReadsSteps line0 lines0 line lines steps
    → lines ≡ bytes ∷ rest → next ≡ line + 1 → bytes ≡ step_line s → IsTextStep s → more ≡ steps ++ s ∷ [] → ReadsSteps line0 lines0 next rest more
steps_more line0 lines0 line next lines rest steps more bytes s r e after is small grown =
    subst (ReadsSteps line0 lines0 next rest) (sym grown) (record {
      lines_are = r.lines_are ∙ ap (λ l. map step_line steps ++ l) (e ∙ ap (λ b. b ∷ rest) is)
          ∙ sym (append_assoc (map step_line steps) (step_line s ∷ []) rest) ∙ ap (λ l. l ++ rest) (sym (map-append step_line steps (s ∷ [])));
      small = Each-append IsTextStep steps (s ∷ []) r.small (small, tt);
      count = omega (arith, r.count, after, length-append steps (s ∷ []));
      faults = λ n. r.faults n ∙ ap (fault_from line (at_body n)) (e ∙ ap (λ b. b ∷ rest) is) ∙ step_clean n line s rest small
          ∙ ap (λ l. fault_from l (at_body n) rest) (sym after);
    })

-- the line `cells` ends them
pub steps_lines : (line0 : ℕ) (lines0 : List (List ℕ)) (line : ℕ) (lines rest : List (List ℕ)) (steps : List CellStep) (bytes : List ℕ)
    → ReadsSteps line0 lines0 line lines steps
    → lines ≡ bytes ∷ rest → bytes_eq bytes (codes "cells") ≡ true → lines0 ≡ map step_line steps ++ (codes "cells" ∷ rest)
steps_lines line0 lines0 line lines rest steps bytes r e t = r.lines_are
    ∙ ap (λ l. map step_line steps ++ l) (e ∙ ap (λ b. b ∷ rest) (bytes_same bytes (codes "cells") t))

pub steps_clean : (line0 : ℕ) (lines0 : List (List ℕ)) (line next : ℕ) (lines rest : List (List ℕ)) (steps : List CellStep) (bytes : List ℕ)
    → ReadsSteps line0 lines0 line lines steps
    → lines ≡ bytes ∷ rest → next ≡ line + 1 → bytes_eq bytes (codes "cells") ≡ true → (n : ℕ)
    → fault_from line0 (at_body n) lines0 ≡ fault_from next (at_cells n) rest
steps_clean line0 lines0 line next lines rest steps bytes r e after t n =
    r.faults n ∙ ap (fault_from line (at_body n)) e
    ∙ ap (λ b. body_on n line rest bytes (body_next n b (is_step_line bytes))) t
    ∙ ap (λ l. fault_from l (at_cells n) rest) (sym after)

-- the text ends among the steps, or a line is none
pub steps_missing : (line0 : ℕ) (lines0 : List (List ℕ)) (line : ℕ) (lines : List (List ℕ)) (steps : List CellStep)
    → ReadsSteps line0 lines0 line lines steps → lines ≡ []
    → (n : ℕ) → fault_from line0 (at_body n) lines0 ≡ Some (line, Body)
steps_missing line0 lines0 line lines steps r e n = r.faults n ∙ ap (fault_from line (at_body n)) e

pub steps_bad : (line0 : ℕ) (lines0 : List (List ℕ)) (line : ℕ) (lines rest : List (List ℕ)) (steps : List CellStep) (bytes : List ℕ)
    → ReadsSteps line0 lines0 line lines steps → lines ≡ bytes ∷ rest
    → bytes_eq bytes (codes "cells") ≡ false → is_step_line bytes ≡ false → (n : ℕ) → fault_from line0 (at_body n) lines0 ≡ Some (line, Body)
steps_bad line0 lines0 line lines rest steps bytes r e f g n =
    r.faults n ∙ ap (fault_from line (at_body n)) e
    ∙ ap (λ b. body_on n line rest bytes (body_next n b (is_step_line bytes))) f
    ∙ ap (λ b. body_on n line rest bytes (body_next n false b)) g
