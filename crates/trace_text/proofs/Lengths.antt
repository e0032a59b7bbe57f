-- How long the text of an accepted claim is.
use Rattle.std.proofs.Common.{◌≡◌, ℕ, ◌+◌, ◌*◌, ◌^◌, ◌<◌, ◌≤◌, List, [], ◌∷◌, ◌++◌, length, map, sum_by, All, refl, sym, ap, subst, arith}
use Rattle.std.specs.Prelude.{codes, decimal}
use Rattle.std.specs.List.{AllByRecursion, flat_map, join_with_byte}
use Rattle.std.proofs.lemmas.Fmt.{length-decimal-le}
use Rattle.std.proofs.lemmas.Nat.{mul-le}
use Rattle.std.proofs.lemmas.List.{length-append, length-map}
use Rattle.std.proofs.lemmas.List.Concat.{length-flat_map}
use Rattle.std.proofs.lemmas.List.Elements.{recursion_from_All, All-from_recursion}
use Rattle.std.proofs.lemmas.List.FromFn.{length-range_with_len}
use Rattle.std.proofs.lemmas.List.Sums.{sum_by-cons, sum_by-append}
use Rattle.pair_colours.specs.Colouring.{PairColouring, IsColouring, IsRawColouring, colour_at, points}
use Rattle.pair_colours.specs.declared.coloured_pairs.TheConstants.{MOST_COLOUR, MOST_POINTS}
use Rattle.pair_colours.proofs.ListLemmas.{Each-map, Each-weaker, Each-points, Each-parts}
use Rattle.pair_colours.proofs.Places.{place_below}
use Rattle.trace_text.specs.declared.limits.TheConstants.{MOST_STEP_NUMBER, MOST_TRACE}
use Rattle.trace_text.specs.declared.step_list.Step.{Step}
use Rattle.trace_text.specs.declared.step_list.Step.TheVariants.{Diag, Flip, Tri, Round}
use Rattle.trace_text.specs.declared.stage_list.Stage.{Stage}
use Rattle.trace_text.specs.declared.stage_list.Claim.{Claim}
use Rattle.trace_text.specs.Limits.{most_stages}
use Rattle.trace_text.specs.Acceptance.{Accepts, step_count}
use Rattle.trace_text.specs.TraceText.{step_line, stage_lines, trace_lines, trace_text}
use Rattle.trace_text.specs.Versions.{IsVersioned}
use Rattle.trace_text.specs.ClaimTexts.{IsTraceStep, IsTraceStage}
use Rattle.trace_text.proofs.AcceptedTexts.{accepted_fits_trace}
use Rattle.trace_text.proofs.Stages.{fewer_steps_than_pairs}
use Rattle.text_lines.specs.Rows.{matrix_row, matrix_lines}

-- how many bytes lines take, each with its line end
abbrev pub size_of_lines : List (List ℕ) → ℕ
size_of_lines lines = sum_by (λ line. length (line ++ codes "\n")) lines

line_end : (line : List ℕ) → length (line ++ codes "\n") ≡ length line + 1
line_end line = length-append line (codes "\n")

lines-append : (xs ys : List (List ℕ)) → size_of_lines (xs ++ ys) ≡ size_of_lines xs + size_of_lines ys
lines-append xs ys = sum_by-append (λ line. length (line ++ codes "\n")) xs ys

-- lines of at most so many bytes
lines-le : (b : ℕ) (lines : List (List ℕ)) → AllByRecursion (λ line. length line < b) lines → size_of_lines lines ≤ length lines * b
lines-le b [] a = omega arith
lines-le b (line ∷ lines) a =
    omega (arith, sum_by-cons (λ l. length (l ++ codes "\n")) line lines, line_end line, lines-le b lines a.1, a.0)

-- how many digits a colour or a number of a step has at most
abbrev most_digits : ℕ
most_digits = 7

few_digits : (n : ℕ) → n < 10 ^ most_digits → length (decimal n) ≤ most_digits
few_digits n h = length-decimal-le most_digits n (omega arith) h (omega (arith, h))

-- so many bytes have room for a number and what stands before or after it; for a row, for a matrix, and for a step
abbrev number_room : ℕ
number_room = most_digits + 1

abbrev row_room : ℕ
row_room = number_room * MOST_POINTS + 1

abbrev matrix_room : ℕ
matrix_room = row_room * MOST_POINTS

abbrev step_room : ℕ
step_room = number_room * 3 + 2

-- numbers with spaces between them
joined-le : (pieces : List (List ℕ)) → AllByRecursion (λ p. length p ≤ most_digits) pieces → length (join_with_byte 32 pieces) ≤ number_room * length pieces
joined-le [] a = omega arith
joined-le (p ∷ []) a = omega (arith, a.0)
joined-le (p ∷ q ∷ rest) a =
    omega (arith, a.0, joined-le (q ∷ rest) a.1, length-append p (32 ∷ join_with_byte 32 (q ∷ rest)))

-- a matrix of raw colours
matrix-le : (C : PairColouring) → IsRawColouring C → size_of_lines (matrix_lines C) ≤ matrix_room
matrix-le C raw =
    let len : length (points C.size) ≡ C.size = length-range_with_len 0 C.size in
    let rows : AllByRecursion (λ line. length line < row_room) (matrix_lines C) =
    Each-map (λ line. length line < row_room) (matrix_row C) (points C.size)
    (Each-weaker (λ x. x < C.size) (λ x. length (matrix_row C x) < row_room) row (points C.size) (Each-points C.size)) in
    omega (arith, lines-le row_room (matrix_lines C) rows, length-map (points C.size) (matrix_row C), len, raw.fits.limit)
  where
    small : (x y : ℕ) → x < C.size → y < C.size → length (decimal (colour_at C x y)) ≤ most_digits
    small x y hx hy =
        let inside : x * C.size + y < length C.colours = subst (λ m. x * C.size + y < m) (sym raw.fits.colouring.has_pairs) (place_below C.size x y hx hy) in
        let l : colour_at C x y ≤ MOST_COLOUR = raw.raw (x * C.size + y) 0 inside in
        few_digits (colour_at C x y) (omega (arith, l))

    row : (x : ℕ) → x < C.size → length (matrix_row C x) < row_room
    row x hx =
        let digits : AllByRecursion (λ p. length p ≤ most_digits) (map decimal (map (λ y. colour_at C x y) (points C.size))) =
        Each-map (λ p. length p ≤ most_digits) decimal (map (λ y. colour_at C x y) (points C.size))
        (Each-map (λ c. length (decimal c) ≤ most_digits) (λ y. colour_at C x y) (points C.size)
        (Each-weaker (λ y. y < C.size) (λ y. length (decimal (colour_at C x y)) ≤ most_digits) (λ y hy. small x y hx hy) (points C.size) (Each-points C.size))) in
        omega (
          arith,
          joined-le (map decimal (map (λ y. colour_at C x y) (points C.size))) digits,
          length-map (map (λ y. colour_at C x y) (points C.size)) decimal,
          length-map (points C.size) (λ y. colour_at C x y),
          length-range_with_len 0 C.size,
          raw.fits.limit,
        )

-- a step
named-le : (numbers : List ℕ) → AllByRecursion (λ number. number ≤ MOST_STEP_NUMBER) numbers → length (flat_map (λ number. codes " " ++ decimal number) numbers) ≤ number_room * length numbers
named-le [] a = omega arith
named-le (n ∷ ns) a =
    omega (
      arith,
      few_digits n (omega (arith, a.0)),
      named-le ns a.1,
      length-append (codes " " ++ decimal n) (flat_map (λ number. codes " " ++ decimal number) ns),
      length-append (codes " ") (decimal n),
    )

step-le : (v : ℕ) (s : Step) → IsTraceStep v s → length (step_line s) < step_room
step-le v (Diag k) a = omega (arith, named-le (k ∷ []) a.numbers, length-append (codes "D") (flat_map (λ number. codes " " ++ decimal number) (k ∷ [])))
step-le v (Flip k i) a = omega (arith, named-le (k ∷ i ∷ []) a.numbers, length-append (codes "F") (flat_map (λ number. codes " " ++ decimal number) (k ∷ i ∷ [])))
step-le v (Tri k i j) a = omega (arith, named-le (k ∷ i ∷ j ∷ []) a.numbers, length-append (codes "T") (flat_map (λ number. codes " " ++ decimal number) (k ∷ i ∷ j ∷ [])))
step-le v Round a = omega (arith, length-append (codes "R") [])

-- a stage, and stages
stage-le : (v n : ℕ) (stage : Stage) → IsTraceStage v n stage → size_of_lines (stage_lines stage) ≤ 6 + matrix_room + step_room * length stage.steps
stage-le v n stage h =
    let s = lines-le step_room (map step_line stage.steps)
    (Each-map (λ line. length line < step_room) step_line stage.steps (Each-weaker (IsTraceStep v) (λ s. length (step_line s) < step_room) (step-le v) stage.steps h.steps)) in
    omega (
      arith,
      matrix-le stage.colours h.colours,
      s,
      length-map stage.steps step_line,
      lines-append (matrix_lines stage.colours) (map step_line stage.steps),
      sum_by-cons (λ line. length (line ++ codes "\n")) (codes "stage") (matrix_lines stage.colours ++ map step_line stage.steps),
    )

stages-le : (v n : ℕ) (stages : List Stage) → AllByRecursion (IsTraceStage v n) stages → size_of_lines (flat_map stage_lines stages) ≤ (6 + matrix_room) * length stages + step_room * step_count stages
stages-le v n [] a = omega arith
stages-le v n (stage ∷ rest) a =
    omega (
      arith,
      stage-le v n stage a.0,
      stages-le v n rest a.1,
      lines-append (stage_lines stage) (flat_map stage_lines rest),
      sum_by-cons (λ one. length one.steps) stage rest,
    )

-- a list with an element has a last one
last_of : (stages : List Stage) → 1 ≤ length stages → (front : List Stage) × (last : Stage) × (stages ≡ front ++ last ∷ [])
last_of [] h = absurd (omega (arith, h))
last_of (stage ∷ []) h = ([], stage, refl)
last_of (stage ∷ next ∷ rest) h = let r = last_of (next ∷ rest) (omega arith) in (stage ∷ r.0, r.1, ap (λ l. stage ∷ l) r.2)

-- an accepted claim of raw colourings has fewer steps than the most pairs
few_steps_in_all : (claim : Claim) → Accepts claim → 1 ≤ length claim.chain → AllByRecursion (λ stage. IsRawColouring stage.colours) claim.chain → step_count claim.chain < MOST_POINTS * MOST_POINTS
few_steps_in_all claim a some raw =
    let coloured = Each-weaker (λ stage. IsRawColouring stage.colours) (λ stage. IsColouring stage.colours) (λ stage r. r.fits.colouring) claim.chain raw in
    let cut = last_of claim.chain some in
    let n : cut.1.colours.size ≤ MOST_POINTS = (Each-parts (λ stage. IsRawColouring stage.colours) cut.0 (cut.1 ∷ []) (subst (AllByRecursion (λ stage. IsRawColouring stage.colours)) cut.2 raw)).1.0.fits.limit in
    omega (
      arith,
      fewer_steps_than_pairs claim cut.0 cut.1 (All-from_recursion (λ stage. IsColouring stage.colours) claim.chain coloured) cut.2 a,
      mul-le cut.1.colours.size cut.1.colours.size MOST_POINTS MOST_POINTS n n,
    )

pub accepted_text_fits : (claim : Claim) → IsVersioned claim → Accepts claim → length claim.chain ≤ most_stages → All (λ stage. IsRawColouring stage.colours) claim.chain → length (trace_text claim) ≤ MOST_TRACE
accepted_text_fits claim known a few raw =
    let f = accepted_fits_trace claim known a raw in
    let head = codes "trace " ++ decimal claim.version in
    let size = codes "points " ++ decimal claim.closure.size in
    let chain = flat_map stage_lines claim.chain in
    let rows = matrix_lines claim.closure in
    omega (
      arith,
      length-flat_map (λ line. line ++ codes "\n") (trace_lines claim),
      few_steps_in_all claim a f.has_stage (recursion_from_All (λ stage. IsRawColouring stage.colours) claim.chain raw),
      matrix-le claim.closure f.closure,
      stages-le claim.version claim.closure.size claim.chain f.stages,
      few,
      sum_by-cons (λ line. length (line ++ codes "\n")) head (size ∷ chain ++ codes "closure" ∷ rows ++ codes "end" ∷ []),
      sum_by-cons (λ line. length (line ++ codes "\n")) size (chain ++ codes "closure" ∷ rows ++ codes "end" ∷ []),
      lines-append (chain ++ codes "closure" ∷ rows) (codes "end" ∷ []),
      lines-append chain (codes "closure" ∷ rows),
      sum_by-cons (λ line. length (line ++ codes "\n")) (codes "closure") rows,
      line_end head,
      length-append (codes "trace ") (decimal claim.version),
      few_digits claim.version (omega (arith, known.version.most)),
      line_end size,
      length-append (codes "points ") (decimal claim.closure.size),
      few_digits claim.closure.size (omega (arith, f.closure.fits.limit)),
    )
