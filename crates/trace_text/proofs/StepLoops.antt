-- A loop over the steps of a stage: what it keeps, and what it meets.
use Rattle.std.proofs.Common.{◌≡◌, ℕ, ◌+◌, List, [], ◌∷◌, ◌++◌, length, take, drop, sym, ap, subst, ◌∙◌, arith}
use Rattle.std.specs.Prelude.{Some, slice_get}
use Rattle.std.proofs.lemmas.List.{take-append-drop, take_more, drop_more, length-take-le}
use Rattle.std.proofs.lemmas.Option.{get_or_from_slice_get, slice_get_within}
use Rattle.pair_colours.specs.Colouring.{PairColouring}
use Rattle.trace_text.specs.declared.check_words.CheckWord.{CheckWord}
use Rattle.trace_text.specs.declared.step_list.Step.{Step}
use Rattle.trace_text.specs.Split.{IsSplit, Lead, partition_after}
use Rattle.trace_text.specs.BadLines.{step_conditions, IsFirstFailing}
use Rattle.trace_text.proofs.Leads.{lead_more, lead_after}
use Rattle.trace_text.proofs.Conditions.{step_conditions-append, hold_from_lead}
use Rattle.trace_text.proofs.Verdicts.{failing_after, failing_before}

-- the steps up to one more
pub lead_taken : (steps : List Step) (i : ℕ) (s : Step) (P P1 P2 : PairColouring) → slice_get steps i ≡ Some s
    → Lead (take i steps) P P1 → IsSplit P1 s P2 → Lead (take (i + 1) steps) P P2
lead_taken steps i s P P1 P2 at l d =
    let e : take (i + 1) steps ≡ take i steps ++ s ∷ [] =
    take_more steps i s (slice_get_within steps i s at) ∙ ap (λ t. take i steps ++ t ∷ []) (get_or_from_slice_get steps i s s at) in
    subst (λ l. Lead l P P2) (sym e) (lead_more (take i steps) s P P1 P2 l d)

-- the first step that fails
pub failing_step : (steps : List Step) (i line : ℕ) (s : Step) (P P1 : PairColouring) (word : CheckWord) → slice_get steps i ≡ Some s
    → Lead (take i steps) P P1 → IsFirstFailing (step_conditions (line + i) P1 (s ∷ [])) (line + i) word → IsFirstFailing (step_conditions line P steps) (line + i) word
failing_step steps i line s P P1 word at l f =
    let inside = slice_get_within steps i s at in
    let cut : take i steps ++ s ∷ drop (i + 1) steps ≡ steps =
    ap (λ t. take i steps ++ t ∷ drop (i + 1) steps) (sym (get_or_from_slice_get steps i s s at)) ∙ ap (λ l. take i steps ++ l) (sym (drop_more steps i s inside)) ∙ take-append-drop i steps in
    let len : length (take i steps) ≡ i = length-take-le i steps (omega (arith, inside)) in
    let here : IsFirstFailing (step_conditions (line + i) P1 (s ∷ drop (i + 1) steps)) (line + i) word =
    subst (λ cs. IsFirstFailing cs (line + i) word) (sym (step_conditions-append (line + i) P1 (s ∷ []) (drop (i + 1) steps)))
    (failing_before (step_conditions (line + i) P1 (s ∷ [])) (step_conditions (line + i + length (s ∷ [])) (partition_after P1 (s ∷ [])) (drop (i + 1) steps)) (line + i) word f) in
    let there : IsFirstFailing (step_conditions (line + length (take i steps)) (partition_after P (take i steps)) (s ∷ drop (i + 1) steps)) (line + i) word =
    subst (λ A. IsFirstFailing (step_conditions (line + length (take i steps)) A (s ∷ drop (i + 1) steps)) (line + i) word) (lead_after (take i steps) P P1 l)
    (subst (λ n. IsFirstFailing (step_conditions (line + n) P1 (s ∷ drop (i + 1) steps)) (line + i) word) (sym len) here) in
    subst (λ l. IsFirstFailing (step_conditions line P l) (line + i) word) cut
    (subst (λ cs. IsFirstFailing cs (line + i) word) (sym (step_conditions-append line P (take i steps) (s ∷ drop (i + 1) steps)))
    (failing_after (step_conditions line P (take i steps)) (step_conditions (line + length (take i steps)) (partition_after P (take i steps)) (s ∷ drop (i + 1) steps)) (line + i) word
    (hold_from_lead line P P1 (take i steps) l) there))
