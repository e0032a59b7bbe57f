-- Each text is that of one claim or has a fault.
use Rattle.std.proofs.Common.{◌≡◌, ℕ, ◌+◌, ◌*◌, ◌≤◌, Bool, cond, List, [], ◌∷◌, ◌++◌, length, map, drop, Option, Some, None, refl, sym, ap, subst, ◌∙◌, arith, inl, inr}
use Rattle.std.specs.Prelude.{codes, decimal, bytes_eq, MatchOption}
use Rattle.std.specs.List.{AllByRecursion}
use Rattle.std.proofs.lemmas.Bool.{cases_Bool}
use Rattle.std.proofs.lemmas.List.{append_assoc}
use Rattle.text_lines.specs.Lines.{lines_of}
use Rattle.text_lines.specs.Joined.{spaced}
use Rattle.text_lines.specs.Rows.{matrix_lines}
use Rattle.text_lines.specs.PointsLine.{points_on}
use Rattle.text_lines.specs.LineNumbers.{numbers_on, value}
use Rattle.text_lines.proofs.LineNumbers.{value-decimal}
use Rattle.text_lines.proofs.RowLines.{row_good, rows_of, rows_shown, rows_same}
use Rattle.text_lines.proofs.PointsLine.{points_good, points_back, bytes_same}
use Rattle.equitable.specs.declared.cell_claims.CellClaim.{CellClaim}
use Rattle.equitable.specs.declared.limits.TheConstants.{MOST_CELL}
use Rattle.equitable.specs.declared.text_faults.CellWord.{CellWord}
use Rattle.equitable.specs.CellText.{step_line, cell_lines}
use Rattle.equitable.specs.TextFault.{at_head, at_points, next_row, sized, fault_from, fault_on, cell_text_fault}
use Rattle.equitable.specs.Arcs.{IsArcs}
use Rattle.equitable.specs.ClaimText.{IsTextStep, HasCellText, AreCellLines, IsCellText}
use Rattle.equitable.specs.Law.{CellTextReadsOrFails, ReadingHasNoFault, ReadingIsUnique}
use Rattle.equitable.proofs.ArcRows.{arcs_from, arcs_each, rows_clean, rows_back}
use Rattle.equitable.proofs.ClaimLines.{steps_clean, steps_back, steps_same, end_clean, end_back}

-- the lines of a claim, its rows from the list of its numbers
abbrev pub shown_lines : CellClaim → List (List ℕ)
shown_lines claim =
    codes "cells 1" ∷ (codes "points " ++ decimal claim.arcs.size)
    ∷ (rows_of claim.arcs.size claim.arcs.size claim.arcs.colours ++ (map step_line claim.steps ++ (codes "cells" ∷ spaced claim.cells ∷ codes "end" ∷ [])))

pub claim_shown : (claim : CellClaim) → HasCellText claim → cell_lines claim ≡ shown_lines claim
claim_shown claim f =
    let end = codes "cells" ∷ spaced claim.cells ∷ codes "end" ∷ [] in
    ap (λ l. codes "cells 1" ∷ (codes "points " ++ decimal claim.arcs.size) ∷ l)
    (append_assoc (matrix_lines claim.arcs) (map step_line claim.steps) end
    ∙ ap (λ rows. rows ++ (map step_line claim.steps ++ end)) (rows_shown claim.arcs f.arcs.fits.colouring))

-- what follows the line of the number of points
abbrev points_next : List (List ℕ) → Option ℕ → Option (ℕ × CellWord)
points_next rest o = fault_on 2 at_points (sized o) (λ next. fault_from 3 next rest)

-- the lines of a claim have no fault
pub lines_clean : (claim : CellClaim) → HasCellText claim → fault_from 1 at_head (cell_lines claim) ≡ None
lines_clean claim f =
    let n : ℕ = claim.arcs.size in
    let c = f.arcs.fits.colouring in
    let end = codes "cells" ∷ spaced claim.cells ∷ codes "end" ∷ [] in
    let rest = rows_of n n claim.arcs.colours ++ (map step_line claim.steps ++ end) in
    ap (fault_from 1 at_head) (claim_shown claim f)
    ∙ ap (points_next rest) (points_good n c.has_points f.arcs.fits.limit)
    ∙ rows_clean n n 3 claim.arcs.colours (map step_line claim.steps ++ end) c.has_points c.has_pairs (arcs_each claim.arcs f.arcs)
    ∙ steps_clean n (3 + n) claim.steps end f.steps
    ∙ end_clean n (3 + n + length claim.steps + 1) claim.cells c.has_points f.count f.cells

-- lines without a fault are those of a claim
lines_after_points : (n : ℕ) (points : List ℕ) (rest : List (List ℕ)) → points_on points ≡ Some n → fault_from 3 (next_row n n) rest ≡ None
    → (claim : CellClaim) × AreCellLines (codes "cells 1" ∷ points ∷ rest) claim
lines_after_points n points rest p e =
    let size = points_back points n p in
    let rows = rows_back n n 3 rest e in
    let steps = steps_back n (3 + n) rows.rest rows.clean in
    let end = end_back n steps.line steps.rest steps.clean in
    let claim : CellClaim = record { arcs = record { size = n; colours = rows.numbers }; steps = steps.steps; cells = end.cells } in
    let arcs = arcs_from claim.arcs (record { has_points = size.some; has_pairs = rows.count }) size.few rows.small in
    let fits : HasCellText claim = record { arcs = arcs; steps = steps.small; count = end.count; cells = end.small } in
    let left : rest ≡ rows_of n n rows.numbers ++ (map step_line steps.steps ++ (codes "cells" ∷ spaced end.cells ∷ codes "end" ∷ [])) =
    rows.are ∙ ap (λ l. rows_of n n rows.numbers ++ l) (steps.are ∙ ap (λ l. map step_line steps.steps ++ (codes "cells" ∷ l)) end.are) in
    (claim, record { are = (λ i. codes "cells 1" ∷ size.spelled i ∷ left i) ∙ sym (claim_shown claim fits); fits = fits })

-- what follows the head
abbrev head_next : List (List ℕ) → Bool → Option (ℕ × CellWord)
head_next rest b = fault_on 1 at_head (cond b (Some at_points) None) (λ next. fault_from 2 next rest)

lines_after_head : (head : List ℕ) (rest : List (List ℕ)) → head ≡ codes "cells 1" → fault_from 2 at_points rest ≡ None
    → (claim : CellClaim) × AreCellLines (head ∷ rest) claim
lines_after_head head [] h e = absurd cc
lines_after_head head (points ∷ rest) h e =
    subst (λ l. (claim : CellClaim) × AreCellLines (l ∷ points ∷ rest) claim) (sym h) (by (points_on points) refl)
  where
    by : (o : Option ℕ) → points_on points ≡ o → (claim : CellClaim) × AreCellLines (codes "cells 1" ∷ points ∷ rest) claim
    by None p = let none = sym (ap (points_next rest) p) ∙ e in absurd cc
    by (Some n) p = lines_after_points n points rest p (sym (ap (points_next rest) p) ∙ e)

pub lines_claim : (lines : List (List ℕ)) → fault_from 1 at_head lines ≡ None → (claim : CellClaim) × AreCellLines lines claim
lines_claim [] e = absurd cc
lines_claim (head ∷ rest) e = elim (cases_Bool (bytes_eq head (codes "cells 1"))) [
  | inl t ↦ lines_after_head head rest (bytes_same head (codes "cells 1") t) (sym (ap (head_next rest) t) ∙ e)
  | inr f ↦ let none = sym (ap (head_next rest) f) ∙ e in absurd cc
]

-- two claims with the same lines are one
claims_same : (a b : CellClaim) → HasCellText a → HasCellText b → shown_lines a ≡ shown_lines b → a ≡ b
claims_same a b f g e =
    let end = λ (claim : CellClaim). codes "cells" ∷ spaced claim.cells ∷ codes "end" ∷ [] in
    let second : codes "points " ++ decimal a.arcs.size ≡ codes "points " ++ decimal b.arcs.size = cc in
    let digits : decimal a.arcs.size ≡ decimal b.arcs.size = ap (drop 7) second in
    let size : a.arcs.size ≡ b.arcs.size =
    sym (value-decimal a.arcs.size (omega (arith, f.arcs.fits.limit))) ∙ ap value digits ∙ value-decimal b.arcs.size (omega (arith, g.arcs.fits.limit)) in
    let rest : rows_of a.arcs.size a.arcs.size a.arcs.colours ++ (map step_line a.steps ++ end a) ≡ rows_of b.arcs.size b.arcs.size b.arcs.colours ++
    (map step_line b.steps ++ end b) = cc in
    let moved : rows_of a.arcs.size a.arcs.size a.arcs.colours ++
    (map step_line a.steps ++ end a) ≡ rows_of a.arcs.size a.arcs.size b.arcs.colours ++ (map step_line b.steps ++ end b) =
    rest ∙ ap (λ n. rows_of n n b.arcs.colours ++ (map step_line b.steps ++ end b)) (sym size) in
    let rows = rows_same 1 a.arcs.size a.arcs.size a.arcs.colours b.arcs.colours (map step_line a.steps ++ end a) (map step_line b.steps ++ end b)
    (omega arith)
    f.arcs.fits.colouring.has_points f.arcs.fits.colouring.has_pairs (g.arcs.fits.colouring.has_pairs ∙ ap (λ n. n * n) (sym size))
    (arcs_each a.arcs f.arcs) (arcs_each b.arcs g.arcs) moved in
    let steps = steps_same a.steps b.steps (spaced a.cells ∷ codes "end" ∷ []) (spaced b.cells ∷ codes "end" ∷ []) f.steps g.steps rows.rest in
    let last : spaced a.cells ≡ spaced b.cells = let s = steps.rest in cc in
    let cells : a.cells ≡ b.cells =
    sym (row_good MOST_CELL a.arcs.size a.cells (omega arith) f.arcs.fits.colouring.has_points f.count f.cells).1
    ∙ ap numbers_on last
    ∙ (row_good MOST_CELL b.arcs.size b.cells (omega arith) g.arcs.fits.colouring.has_points g.count g.cells).1 in
    λ i. record { arcs = record { size = size i; colours = rows.numbers i }; steps = steps.steps i; cells = cells i }

-- a text that is read has no fault
pub reading_has_no_fault : ReadingHasNoFault
reading_has_no_fault text claim h = ap (fault_from 1 at_head) h.lines.are ∙ lines_clean claim h.lines.fits

pub reading_is_unique : ReadingIsUnique
reading_is_unique text a b h k =
    claims_same a b h.lines.fits k.lines.fits
    (sym (claim_shown a h.lines.fits) ∙ sym h.lines.are ∙ k.lines.are ∙ claim_shown b k.lines.fits)

pub cell_text_reads_or_fails : CellTextReadsOrFails
cell_text_reads_or_fails text = by (cell_text_fault text) refl
  where
    by : (o : Option (ℕ × CellWord)) → cell_text_fault text ≡ o
        → MatchOption o ((claim : CellClaim) × IsCellText text claim) (λ _. (claim : CellClaim) → ¬ IsCellText text claim)
    by None e = let r = lines_claim (map (λ part. part.bytes) (lines_of text)) e in (r.0, record { lines = r.1 })
    by (Some fault) e = λ claim h. let none = sym e ∙ reading_has_no_fault text claim h in cc

-- the lines that were read part by part are those of the claim
pub claim_read : (lines l1 l2 l3 l4 : List (List ℕ)) (claim : CellClaim) (n : ℕ) → lines ≡ codes "cells 1" ∷ (codes "points " ++ decimal n) ∷ l1
    → l1 ≡ matrix_lines claim.arcs ++ l2
    → l2 ≡ map step_line claim.steps ++ (codes "cells" ∷ l3) → l3 ≡ spaced claim.cells ∷ l4 → l4 ≡ codes "end" ∷ [] → claim.arcs.size ≡ n → IsArcs claim.arcs
    → AllByRecursion IsTextStep claim.steps → length claim.cells ≡ n → AllByRecursion (λ cell. cell ≤ MOST_CELL) claim.cells → AreCellLines lines claim
claim_read lines l1 l2 l3 l4 claim n head rows steps cells end size arcs small count within =
    let last : l3 ≡ spaced claim.cells ∷ codes "end" ∷ [] = cells ∙ ap (λ l. spaced claim.cells ∷ l) end in
    let body : l1 ≡ matrix_lines claim.arcs ++ (map step_line claim.steps ++ (codes "cells" ∷ spaced claim.cells ∷ codes "end" ∷ [])) =
    rows ∙ ap (λ l. matrix_lines claim.arcs ++ l) (steps ∙ ap (λ l. map step_line claim.steps ++ (codes "cells" ∷ l)) last) in
    record {
      are = head ∙ (λ i. codes "cells 1" ∷ (codes "points " ++ decimal (sym size i)) ∷ body i)
          ∙ ap (λ l. codes "cells 1" ∷ (codes "points " ++ decimal claim.arcs.size) ∷ l)
          (sym (append_assoc (matrix_lines claim.arcs) (map step_line claim.steps) (codes "cells" ∷ spaced claim.cells ∷ codes "end" ∷ [])));
      fits = record { arcs = arcs; steps = small; count = count ∙ sym size; cells = within };
    }
