-- Steps that are read line by line.
use Rattle.std.proofs.Common.{◌≡◌, ℕ, ◌+◌, ◌≤◌, Bool, false, cond, List, [], ◌∷◌, ◌++◌, length, map, Option, Some, None, sym, ap, ◌∙◌, arith}
use Rattle.std.specs.Prelude.{codes, bytes_eq}
use Rattle.std.specs.List.{AllByRecursion}
use Rattle.std.proofs.lemmas.List.{append_assoc, map-append, length-append}
use Rattle.pair_colours.proofs.ListLemmas.{Each-append}
use Rattle.trace_text.specs.declared.step_list.Step.{Step}
use Rattle.trace_text.specs.TraceText.{step_line}
use Rattle.trace_text.specs.TraceFault.{Place, at_body, is_step_line, next_row, next_closure_row, next_place, fault_from, fault_on}
use Rattle.trace_text.specs.ClaimTexts.{IsTraceStep}
use Rattle.trace_text.proofs.LineReadings.{step_good, step_other}

-- these steps were read, and nothing that ends them
pub record ReadsSteps (v line0 : ℕ) (lines0 : List (List ℕ)) (line : ℕ) (lines : List (List ℕ)) (steps : List Step) : Type 0 where
  pub lines_are : lines0 ≡ map step_line steps ++ lines
  pub small : AllByRecursion (IsTraceStep v) steps
  pub count : length steps ≤ line
  pub faults : (n : ℕ) → fault_from line0 (at_body v n) lines0 ≡ fault_from line (at_body v n) lines

on_line : (v n line : ℕ) (bytes : List ℕ) (rest : List (List ℕ)) (o : Option Place) → next_place (at_body v n) bytes ≡ o → fault_from line (at_body v n) (bytes ∷ rest) ≡ fault_on line (at_body v n) o (λ next. fault_from (line + 1) next rest)
on_line v n line bytes rest o e = ap (λ p. fault_on line (at_body v n) p (λ next. fault_from (line + 1) next rest)) e

choose : {X : Type 0} (a b : Bool) (x y z : X) → a ≡ false → b ≡ false → cond a x (cond b y z) ≡ z
choose a b x y z p q = ap (λ t. cond t x (cond b y z)) p ∙ ap (λ t. cond t y z) q

pub steps_more : (v line0 : ℕ) (lines0 : List (List ℕ)) (line next : ℕ) (lines rest : List (List ℕ)) (steps : List Step) (bytes : List ℕ) (s : Step) → ReadsSteps v line0 lines0 line lines steps → lines ≡ bytes ∷ rest → next ≡ line + 1
    → bytes ≡ step_line s → IsTraceStep v s → ReadsSteps v line0 lines0 next rest (steps ++ s ∷ [])
steps_more v line0 lines0 line next lines rest steps bytes s r e after is small = record {
  lines_are = r.lines_are ∙ ap (λ l. map step_line steps ++ l) (e ∙ ap (λ b. b ∷ rest) is) ∙ sym (append_assoc (map step_line steps) (step_line s ∷ []) rest) ∙ ap (λ l. l ++ rest) (sym (map-append step_line steps (s ∷ [])));
  small = Each-append (IsTraceStep v) steps (s ∷ []) r.small (small, tt);
  count = omega (arith, r.count, after, length-append steps (s ∷ []));
  faults = λ n. r.faults n ∙ ap (fault_from line (at_body v n)) (e ∙ ap (λ b. b ∷ rest) is)
      ∙ on_line v n line (step_line s) rest (Some (at_body v n)) (choose (bytes_eq (step_line s) (codes "stage")) (bytes_eq (step_line s) (codes "closure")) (Some (next_row v n n)) (Some (next_closure_row n n)) (cond (is_step_line v (step_line s)) (Some (at_body v n)) None) (step_other s).0 (step_other s).1
      ∙ ap (λ t. cond t (Some (at_body v n)) None) (step_good v s small).0)
      ∙ ap (λ l. fault_from l (at_body v n) rest) (sym after);
}
