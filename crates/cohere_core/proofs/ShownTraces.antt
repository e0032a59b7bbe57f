-- The traces that scripts show are accepted by a check.
use Rattle.std.proofs.Common.{◌≡◌, ◌≤◌, ℕ, List, [], ◌∷◌, length, Option, Some, None, ⊎_elim, refl, sym, subst, inl, inr}
use Rattle.std.specs.Prelude.{All}
use Rattle.std.specs.List.{AllByRecursion}
use Rattle.std.proofs.lemmas.Bool.{cases_eq}
use Rattle.std.proofs.lemmas.List.Elements.{All-from_recursion, recursion_from_All}
use Rattle.trace_text.specs.declared.limits.TheConstants.{MOST_TRACE}
use Rattle.trace_text.specs.declared.stage_list.Claim.{Claim}
use Rattle.trace_text.specs.declared.stage_list.Stage.{Stage}
use Rattle.pair_colours.specs.Colouring.{PairColouring, IsRawColouring}
use Rattle.pair_colours.specs.Closure.{IsClosureOf}
use Rattle.trace_text.specs.Acceptance.{Accepts}
use Rattle.trace_text.specs.Chains.{StageEnd, stage_end}
use Rattle.trace_text.specs.ClaimTexts.{IsTraceText}
use Rattle.trace_text.specs.RoundChains.{AreRoundStages, IsRoundChain}
use Rattle.trace_text.specs.TraceText.{trace_text}
use Rattle.trace_text.specs.Versions.{IsVersioned}
use Rattle.trace_text.proofs.LawProofs.{accepted_fits_trace, text_is_read_back}
use Rattle.recolour_bench.specs.EntryChains.{claim_by, round_claim_by}
use Rattle.recolour_bench.specs.History.{History, IsHistory, no_entry, present, present_chain}
use Rattle.recolour_bench.proofs.LawProofs.{chains_are_accepted, chains_are_raw, chain_texts_fit, round_chains_are_accepted}
use Rattle.cohere_inputs.specs.Bad.{IsTraceFile}
use Rattle.cohere_core.specs.Law.{ShowsClosure, TraceShowsClosure, TraceIsChecked}
use Rattle.cohere_core.proofs.CheckOutputs.{good_trace}

-- the text of an accepted claim of colourings within the limits reads back
accepted_reads : (claim : Claim) → Accepts claim → IsVersioned claim → All (λ stage. IsRawColouring stage.colours) claim.chain → IsTraceText (trace_text claim) claim
accepted_reads claim accepted versioned raw = text_is_read_back claim (accepted_fits_trace claim versioned accepted raw)

-- ---- version 1

-- the claim of the present entry is accepted, and its text reads back and is short
pub present_accepted : (h : History) (K : PairColouring) → IsHistory h → IsClosureOf K (present h) → Accepts (claim_by (present_chain h) K)
present_accepted h K i is = (chains_are_accepted h i h.position no_entry i.inside K is).0

present_raw : (h : History) → IsHistory h → All (λ stage. IsRawColouring stage.colours) (present_chain h)
present_raw h i = chains_are_raw h i h.position no_entry i.inside

pub present_reads : (h : History) (K : PairColouring) → IsHistory h → IsClosureOf K (present h) → IsTraceText (trace_text (claim_by (present_chain h) K)) (claim_by (present_chain h) K)
present_reads h K i is =
    let shown = chains_are_accepted h i h.position no_entry i.inside K is in accepted_reads (claim_by (present_chain h) K) shown.0 shown.1 (present_raw h i)

pub present_short : (h : History) (K : PairColouring) → IsHistory h → IsClosureOf K (present h) → length (trace_text (claim_by (present_chain h) K)) ≤ MOST_TRACE
present_short h K i is = chain_texts_fit h i h.position no_entry i.inside K is

-- ---- version 2

-- rounds have the colours of the chain
raw_rounds : (before : Option StageEnd) (chain rounds : List Stage) → AllByRecursion (λ stage. IsRawColouring stage.colours) chain → AreRoundStages before chain rounds
    → AllByRecursion (λ stage. IsRawColouring stage.colours) rounds
raw_rounds before [] [] raw are = tt
raw_rounds before [] (round ∷ rounds) raw are = absurd are
raw_rounds before (stage ∷ rest) [] raw are = absurd are
raw_rounds before (stage ∷ rest) (round ∷ rounds) raw are =
    (subst IsRawColouring (sym are.0) raw.0, raw_rounds (Some (stage_end before round)) rest rounds raw.1 are.2)

rounds_raw : (h : History) (rounds : List Stage) → IsHistory h → IsRoundChain (present_chain h) rounds → All (λ stage. IsRawColouring stage.colours) rounds
rounds_raw h rounds i are =
    All-from_recursion (λ (stage : Stage). IsRawColouring stage.colours) rounds
    (raw_rounds None (present_chain h) rounds (recursion_from_All (λ (stage : Stage). IsRawColouring stage.colours) (present_chain h) (present_raw h i)) are)

-- ---- each trace

-- a text of an accepted claim that K is the closure of C
shows_claim : (C K : PairColouring) (claim : Claim) (text : List ℕ) → IsClosureOf K C → claim.closure ≡ K → Accepts claim → IsTraceText (trace_text claim) claim
    → length (trace_text claim) ≤ MOST_TRACE → text ≡ trace_text claim → ShowsClosure C K text
shows_claim C K claim text is claims accepted reads short e = record {
  claim = claim;
  reads = subst (λ (t : List ℕ). IsTraceText t claim) (sym e) reads;
  accepted = accepted;
  claims = claims;
  closure = is;
  short = subst (λ (t : List ℕ). length t ≤ MOST_TRACE) (sym e) short;
}

chain_shows : (h : History) (K : PairColouring) (text : List ℕ) → IsHistory h → IsClosureOf K (present h) → text ≡ trace_text (claim_by (present_chain h) K) → ShowsClosure (present h) K text
chain_shows h K text i is e = shows_claim (present h) K (claim_by (present_chain h) K) text is refl (present_accepted h K i is) (present_reads h K i is) (present_short h K i is) e

rounds_show : (h : History) (K : PairColouring) (rounds : List Stage) (text : List ℕ) → IsHistory h → IsClosureOf K (present h) → IsRoundChain (present_chain h) rounds
    → text ≡ trace_text (round_claim_by rounds K) → ShowsClosure (present h) K text
rounds_show h K rounds text i is are e =
    let claim = round_claim_by rounds K in
    let shown = round_chains_are_accepted h i h.position no_entry i.inside K rounds is are in
    shows_claim (present h) K claim text is refl shown.0 (accepted_reads claim shown.0 shown.1 (rounds_raw h rounds i are)) shown.2 e

pub trace_shows_closure : TraceShowsClosure
trace_shows_closure h version text i tells = (
  tells.configuration,
  ⊎_elim
      (λ one. chain_shows h tells.configuration text i tells.closure (tells.holds.first one))
      (λ other. let told = tells.holds.second other in rounds_show h tells.configuration told.0 text i tells.closure told.1 told.2)
      (cases_eq version 1),
)

pub trace_is_checked : TraceIsChecked
trace_is_checked h version text files name status i tells holds decided =
    let shown = (trace_shows_closure h version text i tells).1 in
    let file : IsTraceFile files name shown.claim = record { bytes = text; file = record { holds = holds; short = shown.short }; reads = shown.reads } in
    ⊎_elim (λ is. inl (is.accepted shown.claim file shown.accepted)) (λ wanting. inr wanting) (decided.good (good_trace files name shown.claim file))
