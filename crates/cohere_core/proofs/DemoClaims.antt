-- The claim of version 1 of the present entry of a history, written as a trace, read again and judged.
use Rattle.std.proofs.Common.{◌≡◌, ◌^◌, ◌<◌, ◌≤◌, ℕ, List, length, Some, arith, sym, ap, subst, ◌∙◌}
use Rattle.std.proofs.lemmas.Option.{none-some}
use Rattle.trace_text.specs.declared.check_words.CheckWord.{CheckWord}
use Rattle.trace_text.specs.declared.limits.TheConstants.{MOST_TRACE}
use Rattle.trace_text.specs.declared.stage_list.Claim.{Claim}
use Rattle.trace_text.specs.declared.trace_faults.TraceWord.{TraceWord}
use Rattle.trace_text.specs.Acceptance.{Accepts}
use Rattle.trace_text.specs.BadLines.{IsFirstBadLine, line_count}
use Rattle.trace_text.specs.ClaimTexts.{IsTraceText}
use Rattle.trace_text.specs.TraceFault.{trace_fault}
use Rattle.trace_text.specs.TraceText.{trace_text}
use Rattle.trace_text.proofs.LawProofs.{accepted_has_none, reading_has_no_fault, reading_is_unique}
use Rattle.recolour_bench.specs.EntryChains.{claim_by}
use Rattle.recolour_bench.specs.History.{History, IsHistory, no_entry, present_chain}
use Rattle.recolour_bench.proofs.LawProofs.{chains_are_short}
use Rattle.cohere_inputs.proofs.LawProofs.{trace_has_few_lines}
use Rattle.cohere_core.specs.Answer.{OfConfiguration}
use Rattle.cohere_core.specs.DemoForm.{IsClaimOf}
use Rattle.cohere_core.proofs.ShownTraces.{present_accepted, present_reads, present_short}

-- ---- the text

-- the text of the claim
abbrev pub IsTextOfClaim : History → List ℕ → Type 0
IsTextOfClaim h text = OfConfiguration h (λ K. text ≡ trace_text (claim_by (present_chain h) K))

-- the text is short, in whichever place it stands
pub trace_is_short : (h : History) (text view : List ℕ) → IsHistory h → IsTextOfClaim h text → view ≡ text → length view ≤ MOST_TRACE
trace_is_short h text view i tells same = subst (λ (t : List ℕ). length t ≤ MOST_TRACE) (sym (same ∙ tells.holds)) (present_short h tells.configuration i tells.closure)

trace_reads : (h : History) (text view : List ℕ) (i : IsHistory h) (tells : IsTextOfClaim h text) → view ≡ text → IsTraceText view (claim_by (present_chain h) tells.configuration)
trace_reads h text view i tells same =
    subst (λ (t : List ℕ). IsTraceText t (claim_by (present_chain h) tells.configuration)) (sym (same ∙ tells.holds)) (present_reads h tells.configuration i tells.closure)

-- what is read of it is the claim
pub trace_is_of_claim : (h : History) (text view : List ℕ) (claim : Claim) → IsHistory h → IsTextOfClaim h text → view ≡ text → IsTraceText view claim → IsClaimOf h claim
trace_is_of_claim h text view claim i tells same reads = record {
  configuration = tells.configuration;
  closure = tells.closure;
  holds = reading_is_unique view claim (claim_by (present_chain h) tells.configuration) reads (trace_reads h text view i tells same);
}

-- and no fault is
pub trace_has_no_fault : (h : History) (text view : List ℕ) (line : ℕ) (what : TraceWord) → IsHistory h → IsTextOfClaim h text → view ≡ text → trace_fault view ≡ Some (line, what) → ⊥
trace_has_no_fault h text view line what i tells same bad =
    none-some (line, what) (sym (reading_has_no_fault view (claim_by (present_chain h) tells.configuration) (trace_reads h text view i tells same)) ∙ bad)

-- ---- the claim

claim_accepted : (h : History) (claim : Claim) → IsHistory h → IsClaimOf h claim → Accepts claim
claim_accepted h claim i is = subst Accepts (sym is.holds) (present_accepted h is.configuration i is.closure)

claim_reads : (h : History) (claim : Claim) → IsHistory h → IsClaimOf h claim → IsTraceText (trace_text claim) claim
claim_reads h claim i is = subst (λ (c : Claim). IsTraceText (trace_text c) c) (sym is.holds) (present_reads h is.configuration i is.closure)

pub claim_has_stage : (h : History) (claim : Claim) → IsHistory h → IsClaimOf h claim → 1 ≤ length claim.chain
claim_has_stage h claim i is = (claim_reads h claim i is).lines.fits.has_stage

pub claim_has_few_lines : (h : History) (claim : Claim) → IsHistory h → IsClaimOf h claim → line_count claim < 2 ^ 32
claim_has_few_lines h claim i is =
    trace_has_few_lines (trace_text claim) claim (subst (λ (c : Claim). length (trace_text c) ≤ MOST_TRACE) (sym is.holds) (present_short h is.configuration i is.closure)) (claim_reads h claim i is)

-- its stages are those of the present chain, and few
claim_stages : (h : History) (claim : Claim) → IsClaimOf h claim → length claim.chain ≡ length (present_chain h)
claim_stages h claim is = ap (λ (c : Claim). length c.chain) is.holds

pub claim_has_few_stages : (h : History) (claim : Claim) → IsHistory h → IsClaimOf h claim → length claim.chain < 2 ^ 32
claim_has_few_stages h claim i is = omega (arith, claim_stages h claim is, chains_are_short h i h.position no_entry i.inside)

-- ---- the verdict

pub claim_never_refused : (h : History) (claim : Claim) (line : ℕ) (word : CheckWord) → IsHistory h → IsClaimOf h claim → IsFirstBadLine claim line word → ⊥
claim_never_refused h claim line word i is bad = accepted_has_none claim line word (claim_accepted h claim i is) bad
