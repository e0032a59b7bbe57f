-- How many steps an accepted claim has, and how long its text is.
use Rattle.std.proofs.Common.{◌≡◌, ℕ, zero, suc, ◌+◌, ◌-◌, ◌*◌, ◌<◌, ◌≤◌, List, [], ◌∷◌, ◌++◌, length, map, take, drop, sum_by, refl, ap, arith}
use Rattle.std.specs.Prelude.{codes, decimal}
use Rattle.std.specs.List.{AllByRecursion, join_with_byte}
use Rattle.std.proofs.lemmas.Fmt.{length-decimal-le}
use Rattle.std.proofs.lemmas.List.{length-append, length-map, length-replicate}
use Rattle.std.proofs.lemmas.List.Concat.{length-flat_map}
use Rattle.std.proofs.lemmas.List.Sums.{sum_by-cons, sum_by-append}
use Rattle.text_lines.specs.Joined.{spaced}
use Rattle.pair_colours.specs.Colouring.{PairColouring, FitsColouring}
use Rattle.pair_colours.specs.declared.coloured_pairs.TheConstants.{MOST_POINTS}
use Rattle.pair_colours.proofs.ListLemmas.{Each-map, Each-weaker}
use Rattle.text_lines.proofs.RowLines.{rows_of, cut_row}
use Rattle.equitable.specs.declared.cell_steps.CellStep.{CellStep}
use Rattle.equitable.specs.declared.limits.TheConstants.{MOST_CELL}
use Rattle.equitable.specs.Cells.{UsesBelow}
use Rattle.equitable.specs.CellSplit.{keys_in, key_of, split_of, AreAllowed}
use Rattle.equitable.specs.Acceptance.{IsReached, one_cell}
use Rattle.equitable.specs.ClaimText.{IsTextStep}
use Rattle.equitable.specs.CellText.{step_line, cell_lines}
use Rattle.equitable.specs.Law.{AcceptedHasFewSteps, AcceptedTextFits}
use Rattle.equitable.proofs.AcceptedTexts.{accepted_has_text}
use Rattle.equitable.proofs.ArcRows.{arcs_each}
use Rattle.equitable.proofs.CellNumbers.{cell_count-le, cell_count_used}
use Rattle.equitable.proofs.CellTexts.{claim_shown}
use Rattle.equitable.proofs.Existing.{UsesBelow-one_cell, UsesBelow-split_of}
use Rattle.equitable.proofs.Parts.{length-parted_by}

-- each step adds a cell at least, and there are no more cells than points
pub few_steps : (G : PairColouring) (W : List ℕ) (steps : List CellStep) (m : ℕ) → UsesBelow W m → AreAllowed G W steps → length steps + m ≤ length W
few_steps G W [] m h a = omega (arith, cell_count_used W m h, cell_count-le W)
few_steps G W (s ∷ steps) m h a =
    let more = few_steps G (split_of G W s) steps (m + (length (keys_in W s.cell (key_of G W s)) - 1)) (UsesBelow-split_of G W m s h a.0.names.cell) a.1 in
    omega (arith, more, a.0.parts, length-parted_by W s.cell (key_of G W s))

-- and so there are fewer steps than the most points
pub reached_few : (G : PairColouring) (X : List ℕ) (steps : List CellStep) → FitsColouring G → IsReached G X steps → length steps < MOST_POINTS
reached_few G X steps fits r =
    let n : ℕ = G.size in
    omega (arith, few_steps G (one_cell n) steps 1 (UsesBelow-one_cell n fits.colouring.has_points) r.allowed, length-replicate {A = ℕ} n 0, fits.limit)

pub accepted_has_few_steps : AcceptedHasFewSteps
accepted_has_few_steps claim some a =
    let n : ℕ = claim.arcs.size in
    omega (arith, few_steps claim.arcs (one_cell n) claim.steps 1 (UsesBelow-one_cell n some) a.steps, length-replicate {A = ℕ} n 0)

-- how many bytes lines take, each with its line end
abbrev pub size_of_lines : List (List ℕ) → ℕ
size_of_lines lines = sum_by (λ line. length (line ++ codes "\n")) lines

line_end : (line : List ℕ) → length (line ++ codes "\n") ≡ length line + 1
line_end line = length-append line (codes "\n")

lines-append : (xs ys : List (List ℕ)) → size_of_lines (xs ++ ys) ≡ size_of_lines xs + size_of_lines ys
lines-append xs ys = sum_by-append (λ line. length (line ++ codes "\n")) xs ys

-- lines of at most so many bytes
lines-le : (b : ℕ) (lines : List (List ℕ)) → AllByRecursion (λ line. length line < b) lines → size_of_lines lines ≤ length lines * b
lines-le b [] a = omega arith
lines-le b (line ∷ lines) a =
    omega (arith, sum_by-cons (λ l. length (l ++ codes "\n")) line lines, line_end line, lines-le b lines a.1, a.0)

-- pieces of few bytes with single bytes between them
joined-le : (most : ℕ) (pieces : List (List ℕ)) → AllByRecursion (λ p. length p ≤ most) pieces
    → length (join_with_byte 32 pieces) ≤ (most + 1) * length pieces
joined-le most [] a = omega arith
joined-le most (p ∷ []) a = omega (arith, a.0)
joined-le most (p ∷ q ∷ rest) a =
    omega (arith, a.0, joined-le most (q ∷ rest) a.1, length-append p (32 ∷ join_with_byte 32 (q ∷ rest)))

-- how many digits the numbers of a text have at most: numbers of cells, and the number of points
abbrev most_digits : ℕ
most_digits = 3

few_digits : (n : ℕ) → n ≤ MOST_POINTS → length (decimal n) ≤ most_digits
few_digits n h = length-decimal-le most_digits n (omega arith) (omega (arith, h)) (omega (arith, h))

digits_each : (numbers : List ℕ) → AllByRecursion (λ n. n ≤ MOST_CELL) numbers → AllByRecursion (λ p. length p ≤ most_digits) (map decimal numbers)
digits_each [] a = tt
digits_each (n ∷ numbers) a = (few_digits n (omega (arith, a.0)), digits_each numbers a.1)

bits_each : (numbers : List ℕ) → AllByRecursion (λ n. n ≤ 1) numbers → AllByRecursion (λ p. length p ≤ 1) (map decimal numbers)
bits_each [] a = tt
bits_each (n ∷ numbers) a = (length-decimal-le 1 n (omega arith) (omega (arith, a.0)) (omega (arith, a.0)), bits_each numbers a.1)

-- a row of arcs takes two bytes a point, with its line end
arc_row-le : (n : ℕ) (numbers : List ℕ) → n ≤ MOST_POINTS → length numbers ≡ n → AllByRecursion (λ c. c ≤ 1) numbers
    → length (spaced numbers) < 2 * MOST_POINTS + 1
arc_row-le n numbers few e a = omega (arith, few, e, joined-le 1 (map decimal numbers) (bits_each numbers a), length-map numbers decimal)

rows-le : (n k : ℕ) (numbers : List ℕ) → n ≤ MOST_POINTS → length numbers ≡ k * n → AllByRecursion (λ c. c ≤ 1) numbers
    → size_of_lines (rows_of n k numbers) ≤ k * (2 * MOST_POINTS + 1)
rows-le n k numbers few e a =
    omega (arith, lines-le (2 * MOST_POINTS + 1) (rows_of n k numbers) (each k numbers e a), count k numbers)
  where
    each : (k : ℕ) (numbers : List ℕ) → length numbers ≡ k * n → AllByRecursion (λ c. c ≤ 1) numbers
        → AllByRecursion (λ line. length line < 2 * MOST_POINTS + 1) (rows_of n k numbers)
    each zero numbers e a = tt
    each (suc k) numbers e a =
        let cut = cut_row 1 n k numbers e a in
        (arc_row-le n (take n numbers) few cut.count cut.small, each k (drop n numbers) cut.others cut.rest)

    count : (k : ℕ) (numbers : List ℕ) → length (rows_of n k numbers) ≡ k
    count zero numbers = refl
    count (suc k) numbers = omega (arith, count k (drop n numbers))

-- a step line, and step lines
step-le : (s : CellStep) → IsTextStep s → length (step_line s) < 10
step-le s a =
    omega (
      arith,
      few_digits s.cell (omega (arith, a.cell)),
      few_digits s.into (omega (arith, a.into)),
      length-append (codes "S " ++ decimal s.cell ++ codes " ") (decimal s.into),
      length-append (codes "S " ++ decimal s.cell) (codes " "),
      length-append (codes "S ") (decimal s.cell),
    )

steps-le : (steps : List CellStep) → AllByRecursion IsTextStep steps → size_of_lines (map step_line steps) ≤ length steps * 10
steps-le steps a =
    omega (
      arith,
      lines-le 10 (map step_line steps)
          (Each-map (λ line. length line < 10) step_line steps (Each-weaker IsTextStep (λ s. length (step_line s) < 10) step-le steps a)),
      length-map steps step_line,
    )

-- the row of the claimed cells
cells-le : (cells : List ℕ) → length cells ≤ MOST_POINTS → AllByRecursion (λ cell. cell ≤ MOST_CELL) cells → length (spaced cells) ≤ 4 * MOST_POINTS
cells-le cells few a = omega (arith, few, joined-le most_digits (map decimal cells) (digits_each cells a), length-map cells decimal)

-- the parts of a text, one after the other
sizes_of_parts : (head size : List ℕ) (rows steps : List (List ℕ)) (row : List ℕ)
    → size_of_lines (head ∷ size ∷ (rows ++ (steps ++ (codes "cells" ∷ row ∷ codes "end" ∷ []))))
    ≡ length head + 1 + (length size + 1) + (size_of_lines rows + (size_of_lines steps + (6 + (length row + 1 + 4))))
sizes_of_parts head size rows steps row =
    let end = codes "cells" ∷ row ∷ codes "end" ∷ [] in
    omega (
      arith,
      sum_by-cons (λ line. length (line ++ codes "\n")) head (size ∷ (rows ++ (steps ++ end))),
      sum_by-cons (λ line. length (line ++ codes "\n")) size (rows ++ (steps ++ end)),
      line_end head,
      line_end size,
      lines-append rows (steps ++ end),
      lines-append steps end,
      sum_by-cons (λ line. length (line ++ codes "\n")) (codes "cells") (row ∷ codes "end" ∷ []),
      sum_by-cons (λ line. length (line ++ codes "\n")) row (codes "end" ∷ []),
      line_end row,
    )

pub accepted_text_fits : AcceptedTextFits
accepted_text_fits claim arcs a =
    let n : ℕ = claim.arcs.size in
    let f = accepted_has_text claim arcs a in
    let rows = rows_of n n claim.arcs.colours in
    let size = codes "points " ++ decimal n in
    omega (
      arith,
      length-flat_map (λ line. line ++ codes "\n") (cell_lines claim),
      ap size_of_lines (claim_shown claim f),
      sizes_of_parts (codes "cells 1") size rows (map step_line claim.steps) (spaced claim.cells),
      length-append (codes "points ") (decimal n),
      few_digits n arcs.fits.limit,
      rows-le n n claim.arcs.colours arcs.fits.limit arcs.fits.colouring.has_pairs (arcs_each claim.arcs arcs),
      arcs.fits.limit,
      steps-le claim.steps f.steps,
      accepted_has_few_steps claim arcs.fits.colouring.has_points a,
      cells-le claim.cells (omega (arith, f.count, arcs.fits.limit)) f.cells,
    )
