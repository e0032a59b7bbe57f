-- The conditions by line hold exactly where the stages of a claim are as they have to be.
use Rattle.std.proofs.Common.{◌≡◌, ℕ, ◌+◌, ◌≤◌, List, [], ◌∷◌, ◌++◌, length, sum_by, Option, None, Some, refl, sym, ap, subst, ◌∙◌, arith}
use Rattle.std.proofs.lemmas.List.{append_assoc}
use Rattle.std.proofs.lemmas.List.Sums.{sum_by-cons}
use Rattle.pair_colours.specs.Colouring.{PairColouring}
use Rattle.pair_colours.proofs.ListLemmas.{Each-append, Each-parts}
use Rattle.trace_text.specs.declared.step_list.Step.{Step}
use Rattle.trace_text.specs.declared.stage_list.Stage.{Stage}
use Rattle.trace_text.specs.declared.stage_list.Claim.{Claim}
use Rattle.trace_text.specs.Split.{Lead, split_of, partition_after}
use Rattle.trace_text.specs.Chains.{StageEnd, Follows, partition_before, stage_start, IsStageOf, stage_end, end_after, chain_end, AreStages}
use Rattle.trace_text.specs.Acceptance.{Accepts}
use Rattle.trace_text.specs.BadLines.{names_classes, has_parts, Holds, step_conditions, colours_conditions, stage_conditions, line_count_of_stage, chain_conditions, end_conditions, first_line, closure_line, conditions, AllHold}
use Rattle.trace_text.proofs.Stages.{chain_ends}

-- the conditions on steps
pub lead_from_hold : (line : ℕ) (P : PairColouring) (steps : List Step) → AllHold (step_conditions line P steps) → Lead steps P (partition_after P steps)
lead_from_hold line P [] h = refl
lead_from_hold line P (s ∷ steps) h = (record { names = h.0; parts = h.1.0 }, lead_from_hold (line + 1) (split_of P s) steps h.1.1)

pub hold_from_lead : (line : ℕ) (P P2 : PairColouring) (steps : List Step) → Lead steps P P2 → AllHold (step_conditions line P steps)
hold_from_lead line P P2 [] l = tt
hold_from_lead line P P2 (s ∷ steps) l = (l.0.names, (l.0.parts, hold_from_lead (line + 1) (split_of P s) P2 steps l.1))

-- the condition on the colours of a stage
pub follows_from_hold : (line : ℕ) (before : Option StageEnd) (C : PairColouring) → AllHold (colours_conditions line before C) → Follows before C
follows_from_hold line None C h = tt
follows_from_hold line (Some before) C h = h.0

pub hold_from_follows : (line : ℕ) (before : Option StageEnd) (C : PairColouring) → Follows before C → AllHold (colours_conditions line before C)
hold_from_follows line None C f = tt
hold_from_follows line (Some before) C f = (f, tt)

-- the conditions on a stage
pub stage_from_hold : (line : ℕ) (before : Option StageEnd) (stage : Stage) → AllHold (stage_conditions line before stage)
    → IsStageOf before stage (stage_end before stage).partition
stage_from_hold line before stage h =
    let first : ℕ = line + 1 + stage.colours.size in
    let own = Each-parts (λ at. Holds at.1) (colours_conditions line before stage.colours) (step_conditions first (stage_start (partition_before before) stage.colours) stage.steps) h in
    record { follows = follows_from_hold line before stage.colours own.0; leads = lead_from_hold first (stage_start (partition_before before) stage.colours) stage.steps own.1 }

pub hold_from_stage : (line : ℕ) (before : Option StageEnd) (stage : Stage) (P : PairColouring) → IsStageOf before stage P → AllHold (stage_conditions line before stage)
hold_from_stage line before stage P d =
    let first : ℕ = line + 1 + stage.colours.size in
    Each-append (λ at. Holds at.1) (colours_conditions line before stage.colours) (step_conditions first (stage_start (partition_before before) stage.colours) stage.steps)
    (hold_from_follows line before stage.colours d.follows)
    (hold_from_lead first (stage_start (partition_before before) stage.colours) P stage.steps d.leads)

-- and on all stages
pub stages_from_hold : (line : ℕ) (before : Option StageEnd) (stages : List Stage) → AllHold (chain_conditions line before stages) → AreStages before stages
stages_from_hold line before [] h = tt
stages_from_hold line before (stage ∷ rest) h =
    let both = Each-parts (λ at. Holds at.1) (stage_conditions line before stage) (chain_conditions (line + line_count_of_stage stage) (Some (stage_end before stage)) rest) h in
    (stage_from_hold line before stage both.0, stages_from_hold (line + line_count_of_stage stage) (Some (stage_end before stage)) rest both.1)

pub hold_from_stages : (line : ℕ) (before : Option StageEnd) (stages : List Stage) → AreStages before stages → AllHold (chain_conditions line before stages)
hold_from_stages line before [] h = tt
hold_from_stages line before (stage ∷ rest) h =
    Each-append (λ at. Holds at.1) (stage_conditions line before stage) (chain_conditions (line + line_count_of_stage stage) (Some (stage_end before stage)) rest)
    (hold_from_stage line before stage (stage_end before stage).partition h.0)
    (hold_from_stages (line + line_count_of_stage stage) (Some (stage_end before stage)) rest h.1)

-- so a claim with a stage is accepted exactly where all conditions on it hold
pub accepts_from_hold : (claim : Claim) → 1 ≤ length claim.chain → AllHold (conditions claim) → Accepts claim
accepts_from_hold claim some h =
    let both = Each-parts (λ at. Holds at.1) (chain_conditions first_line None claim.chain) (end_conditions (closure_line claim) (chain_end claim.chain) claim.closure) h in
    let end = chain_ends claim.chain some in
    let last = subst (λ o. AllHold (end_conditions (closure_line claim) o claim.closure)) end.1 both.1 in
    record { last = end.0; ends = end.1; stages = stages_from_hold first_line None claim.chain both.0; coherent = last.0; named = last.1.0 }

pub hold_from_accepts : (claim : Claim) → Accepts claim → AllHold (conditions claim)
hold_from_accepts claim a =
    Each-append (λ at. Holds at.1) (chain_conditions first_line None claim.chain) (end_conditions (closure_line claim) (chain_end claim.chain) claim.closure)
    (hold_from_stages first_line None claim.chain a.stages)
    (subst (λ o. AllHold (end_conditions (closure_line claim) o claim.closure)) (sym a.ends) (a.coherent, (a.named, tt)))

-- the conditions on steps one after the other
pub step_conditions-append : (line : ℕ) (P : PairColouring) (steps more : List Step)
    → step_conditions line P (steps ++ more) ≡ step_conditions line P steps ++ step_conditions (line + length steps) (partition_after P steps) more
step_conditions-append line P [] more = ap (λ n. step_conditions n P more) (omega arith)
step_conditions-append line P (s ∷ steps) more =
    let again = step_conditions-append (line + 1) (split_of P s) steps more in
    let e : line + 1 + length steps ≡ line + length (s ∷ steps) = omega arith in
    ap (λ cs. (line, names_classes P s) ∷ (line, has_parts P s) ∷ cs)
    (again ∙ ap (λ n. step_conditions (line + 1) (split_of P s) steps ++ step_conditions n (partition_after (split_of P s) steps) more) e)

-- and those on stages
pub chain_conditions-append : (line : ℕ) (before : Option StageEnd) (front more : List Stage)
    → chain_conditions line before (front ++ more)
    ≡ chain_conditions line before front ++ chain_conditions (line + sum_by line_count_of_stage front) (end_after before front) more
chain_conditions-append line before [] more = ap (λ n. chain_conditions n before more) (omega arith)
chain_conditions-append line before (stage ∷ front) more =
    let end = stage_end before stage in
    let again = chain_conditions-append (line + line_count_of_stage stage) (Some end) front more in
    let e : line + line_count_of_stage stage + sum_by line_count_of_stage front ≡ line + sum_by line_count_of_stage (stage ∷ front) = omega (arith, sum_by-cons line_count_of_stage stage front) in
    ap (λ cs. stage_conditions line before stage ++ cs)
    (again ∙ ap (λ n. chain_conditions (line + line_count_of_stage stage) (Some end) front ++ chain_conditions n (end_after (Some end) front) more) e)
    ∙ sym (append_assoc (stage_conditions line before stage) (chain_conditions (line + line_count_of_stage stage) (Some end) front)
    (chain_conditions (line + sum_by line_count_of_stage (stage ∷ front)) (end_after (Some end) front) more))
