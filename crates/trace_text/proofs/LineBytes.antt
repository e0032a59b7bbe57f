-- The lines of a trace are those of its text: none of its bytes ends a line.
use Rattle.std.proofs.Common.{◌≡◌, ℕ, ◌*◌, ◌<◌, ◌≤◌, ◌^◌, List, [], ◌∷◌, ◌++◌, length, map, refl, sym, ap, subst, ◌∙◌, arith}
use Rattle.std.specs.Prelude.{codes, decimal}
use Rattle.std.specs.List.{AllByRecursion}
use Rattle.text_lines.specs.Lines.{lines_of}
use Rattle.pair_colours.specs.declared.coloured_pairs.TheConstants.{MOST_COLOUR}
use Rattle.pair_colours.proofs.ListLemmas.{Each-append, Each-map, Each-weaker}
use Rattle.trace_text.specs.declared.step_list.Step.{Step}
use Rattle.trace_text.specs.declared.step_list.Step.TheVariants.{Diag, Flip, Tri, Round}
use Rattle.trace_text.specs.declared.stage_list.Stage.{Stage}
use Rattle.trace_text.specs.declared.stage_list.Claim.{Claim}
use Rattle.trace_text.specs.declared.limits.TheConstants.{MOST_STEP_NUMBER}
use Rattle.trace_text.specs.TraceText.{step_line, letter_of, trace_lines, trace_text}
use Rattle.trace_text.specs.ClaimTexts.{IsTraceStep, IsTraceStage, FitsTrace}
use Rattle.trace_text.proofs.RawNumbers.{raw_each}
use Rattle.trace_text.specs.Split.{numbers_of}
use Rattle.trace_text.proofs.LineReadings.{step_words, step_line-words}
use Rattle.trace_text.proofs.ShownStages.{chain_shown}
use Rattle.trace_text.proofs.ClaimShown.{version_line, claim_shown, claim_lines}
use Rattle.text_lines.proofs.LineNumbers.{small_numbers}
use Rattle.text_lines.proofs.RowLines.{rows_of, rows_plain}
use Rattle.text_lines.proofs.LineBytes.{IsHigh, IsPlain, decimal_high, decimals_high, joined_high, high_test, literal, plain_lines, points_high}

words_high : (v : ℕ) (s : Step) → IsTraceStep v s → AllByRecursion IsHigh (step_words s)
words_high v s a = (letter s, decimals_high (numbers_of s) (small_numbers MOST_STEP_NUMBER (omega arith) (numbers_of s) a.numbers))
  where
    letter : (t : Step) → IsHigh (letter_of t)
    letter (Diag k) = (omega arith, tt)
    letter (Flip k o) = (omega arith, tt)
    letter (Tri k l r) = (omega arith, tt)
    letter Round = (omega arith, tt)

step_plain : (v : ℕ) (s : Step) → IsTraceStep v s → IsPlain (step_line s)
step_plain v s a = record { some = some s; high = subst IsHigh (sym (step_line-words s)) (joined_high (step_words s) (words_high v s a)) }
  where
    some : (t : Step) → 0 < length (step_line t)
    some (Diag k) = omega arith
    some (Flip k o) = omega arith
    some (Tri k l r) = omega arith
    some Round = omega arith

chain_plain : (v n : ℕ) (closure : List ℕ) (chain : List Stage) → 1 ≤ n → length closure ≡ n * n → AllByRecursion (λ c. c ≤ MOST_COLOUR) closure
    → AllByRecursion (IsTraceStage v n) chain
    → AllByRecursion IsPlain (chain_shown n closure chain)
chain_plain v n closure [] h e a b = (
  literal (codes "closure") refl (omega arith),
  Each-append IsPlain (rows_of n n closure) (codes "end" ∷ []) (rows_plain MOST_COLOUR n n closure (omega arith) h e a) (literal (codes "end") refl (omega arith), tt),
)
chain_plain v n closure (s ∷ chain) h e a b =
    let rest = chain_shown n closure chain in
    let pairs = b.0.colours.fits.colouring.has_pairs ∙ ap (λ m. m * m) b.0.points in (
      literal (codes "stage") refl (omega arith),
      Each-append IsPlain (rows_of n n s.colours.colours) (map step_line s.steps ++ rest) (rows_plain MOST_COLOUR n n s.colours.colours (omega arith) h pairs (raw_each s.colours b.0.colours))
          (Each-append IsPlain (map step_line s.steps) rest
          (Each-map IsPlain step_line s.steps (Each-weaker (IsTraceStep v) (λ t. IsPlain (step_line t)) (step_plain v) s.steps b.0.steps))
          (chain_plain v n closure chain h e a b.1)),
    )

version_plain : (v : ℕ) → v < 2 ^ 32 → IsPlain (version_line v)
version_plain v h = record { some = omega arith; high = Each-append (λ b. 13 < b) (codes "trace ") (decimal v) (high_test (codes "trace ") refl) (decimal_high v h) }

claim_plain : (claim : Claim) → FitsTrace claim → AllByRecursion IsPlain (claim_shown claim)
claim_plain claim f =
    let c = f.closure.fits.colouring in (
      version_plain claim.version (omega (arith, f.version.most)),
      (
        record { some = omega arith; high = points_high claim.closure.size (omega (arith, f.closure.fits.limit)) },
        chain_plain claim.version claim.closure.size claim.closure.colours claim.chain c.has_points c.has_pairs (raw_each claim.closure f.closure) f.stages,
      ),
    )

pub text_lines : (claim : Claim) → FitsTrace claim → map (λ part. part.bytes) (lines_of (trace_text claim)) ≡ trace_lines claim
text_lines claim f = plain_lines 0 (trace_lines claim) (subst (AllByRecursion IsPlain) (sym (claim_lines claim f)) (claim_plain claim f))
