-- How many lines the text of a claim has.
use Rattle.std.proofs.Common.{◌≡◌, ◌==◌, ℕ, ◌+◌, ◌^◌, ◌<◌, ◌≤◌, List, [], ◌∷◌, ◌++◌, length, map, sum_by, refl, ap, ◌∙◌, arith, length-append}
use Rattle.std.specs.Prelude.{codes, if◌then◌else◌, true, false}
use Rattle.std.specs.List.{flat_map, slice_split}
use Rattle.std.proofs.lemmas.List.{length-map}
use Rattle.std.proofs.lemmas.List.FromFn.{length-range_with_len}
use Rattle.std.proofs.lemmas.List.Splits.{length-slice_split}
use Rattle.std.proofs.lemmas.List.Sums.{sum_by-cons, count_by-le-length}
use Rattle.text_lines.specs.Part.{Part, placed}
use Rattle.text_lines.specs.Lines.{without_empty_end, without_return, lines_of}
use Rattle.pair_colours.specs.Colouring.{PairColouring, points}
use Rattle.trace_text.specs.declared.limits.TheConstants.{MOST_TRACE}
use Rattle.trace_text.specs.declared.stage_list.Stage.{Stage}
use Rattle.trace_text.specs.declared.stage_list.Claim.{Claim}
use Rattle.trace_text.specs.BadLines.{line_count_of_stage, line_count}
use Rattle.trace_text.specs.TraceText.{stage_lines, step_line, trace_lines}
use Rattle.trace_text.specs.ClaimTexts.{IsTraceText}
use Rattle.text_lines.specs.Rows.{matrix_row, matrix_lines}

length-matrix_lines : (C : PairColouring) → length (matrix_lines C) ≡ C.size
length-matrix_lines C = length-map (points C.size) (matrix_row C) ∙ length-range_with_len 0 C.size

length-stage_lines : (stage : Stage) → length (stage_lines stage) ≡ line_count_of_stage stage
length-stage_lines stage =
    omega (
      arith,
      length-append (matrix_lines stage.colours) (map step_line stage.steps),
      length-matrix_lines stage.colours,
      length-map stage.steps step_line,
    )

-- the stages have as many lines as all of them together
length-stages : (stages : List Stage) → length (flat_map stage_lines stages) ≡ sum_by line_count_of_stage stages
length-stages [] = refl
length-stages (stage ∷ rest) =
    omega (
      arith,
      length-append (stage_lines stage) (flat_map stage_lines rest),
      length-stage_lines stage,
      length-stages rest,
      sum_by-cons line_count_of_stage stage rest,
    )

-- a claim has as many lines as its text
pub length-trace_lines : (claim : Claim) → length (trace_lines claim) ≡ line_count claim
length-trace_lines claim =
    omega (
      arith,
      length-append (flat_map stage_lines claim.chain ++ (codes "closure" ∷ matrix_lines claim.closure)) (codes "end" ∷ []),
      length-append (flat_map stage_lines claim.chain) (codes "closure" ∷ matrix_lines claim.closure),
      length-stages claim.chain,
      length-matrix_lines claim.closure,
    )

length-placed : (start : ℕ) (parts : List (List ℕ)) → length (placed start parts) ≡ length parts
length-placed start [] = refl
length-placed start (part ∷ parts) = omega (arith, length-placed (start + length part + 1) parts)

without_empty_end-le : (parts : List Part) → length (without_empty_end parts) ≤ length parts
without_empty_end-le [] = omega arith
without_empty_end-le (part ∷ []) = elim (length part.bytes == 0) as (λ b. length (if b then [] else part ∷ []) ≤ 1) [ true ↦ omega arith | false ↦ omega arith ]
without_empty_end-le (part ∷ next ∷ parts) = omega (arith, without_empty_end-le (next ∷ parts))

-- a text has at most one line more than bytes
lines_of-le : (text : List ℕ) → length (lines_of text) ≤ length text + 1
lines_of-le text =
    let pieces = slice_split (λ b. b == 10) text in
    let parts = without_empty_end (placed 0 pieces) in
    omega (
      arith,
      length-map parts without_return,
      without_empty_end-le (placed 0 pieces),
      length-placed 0 pieces,
      length-slice_split (λ b. b == 10) text,
      count_by-le-length (λ b. b == 10) text,
    )

-- the text of a claim within the limit of a trace has few lines
pub few_lines : (text : List ℕ) (claim : Claim) → length text ≤ MOST_TRACE → IsTraceText text claim → line_count claim < 2 ^ 32
few_lines text claim few t =
    let parts = lines_of text in
    omega (arith, few, lines_of-le text, length-map parts (λ (part : Part). part.bytes), ap length t.lines.are, length-trace_lines claim)
