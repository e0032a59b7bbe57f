-- Chains of rounds: each chain whose colours follow one another has exactly one, and it ends at a coherent partition.
use Rattle.std.proofs.Common.{◌≡◌, ℕ, suc, zero, ◌+◌, ◌*◌, ◌<◌, ◌≤◌, List, [], ◌∷◌, map, All, Option, None, Some, ⊎_elim, refl, sym, subst, ◌∙◌, arith}
use Rattle.std.specs.List.{AllByRecursion}
use Rattle.std.proofs.lemmas.List.Elements.{recursion_from_All}
use Rattle.pair_colours.specs.Colouring.{PairColouring, IsColouring, Refines}
use Rattle.pair_colours.specs.Closure.{Coherent}
use Rattle.pair_colours.specs.Naming.{rank_of, named_of}
use Rattle.pair_colours.proofs.Closures.{named_closure_is_unique}
use Rattle.pair_colours.proofs.Few.{colours_met-le}
use Rattle.trace_text.specs.declared.step_list.Step.{Step}
use Rattle.trace_text.specs.declared.step_list.Step.TheVariants.{Round}
use Rattle.trace_text.specs.declared.stage_list.Stage.{Stage}
use Rattle.trace_text.specs.declared.stage_list.Claim.{Claim}
use Rattle.trace_text.specs.Partition.{IsPartition}
use Rattle.trace_text.specs.Split.{HasParts, split_of, IsAllowed, Lead, partition_after}
use Rattle.trace_text.specs.Chains.{StageEnd, Follows, partition_before, stage_start, IsStageOf, stage_end, end_after, chain_end, AreStages}
use Rattle.trace_text.specs.Acceptance.{Accepts}
use Rattle.trace_text.specs.Versions.{HasStep, IsVersioned}
use Rattle.trace_text.specs.RoundChains.{AreRounds, AreRoundStages, IsRoundChain, AreFollowing}
use Rattle.trace_text.proofs.RoundSteps.{IsAllowed-round, rank_of-round, has_parts_or_not, round_is_idle_on_coherent}
use Rattle.trace_text.proofs.Splits.{IsPartition-split_of}
use Rattle.trace_text.proofs.Stages.{start_between, end_between, stages_between, closure_at_end}
use Rattle.trace_text.specs.Ends.{IsBetween, IsEnd}

-- rounds lead on, each by a split
pub lead_from_rounds : (steps : List Step) (P : PairColouring) → AreRounds steps P → Lead steps P (partition_after P steps)
lead_from_rounds [] P a = refl
lead_from_rounds (s ∷ steps) P a = (
  subst (IsAllowed P) (sym a.0) (IsAllowed-round P a.1),
  subst (λ t. Lead steps (split_of P t) (partition_after (split_of P t) steps)) (sym a.0) (lead_from_rounds steps (split_of P Round) a.2),
)

-- splits by the step `R` alone, to where it is idle, are the rounds
pub rounds_from_lead : (steps : List Step) (P P2 : PairColouring) → AllByRecursion (λ s. s ≡ Round) steps → Lead steps P P2 → ¬ HasParts P2 Round → AreRounds steps P
rounds_from_lead [] P P2 each l idle = subst (λ A. ¬ HasParts A Round) l idle
rounds_from_lead (s ∷ steps) P P2 each l idle = (
  each.0,
  subst (HasParts P) each.0 l.0.parts,
  rounds_from_lead steps (split_of P Round) P2 each.1 (subst (λ t. Lead steps (split_of P t) P2) each.0 l.1) idle,
)

-- they end at a coherent partition
pub rounds_coherent : (steps : List Step) (P : PairColouring) → IsPartition P → AreRounds steps P → Coherent (partition_after P steps)
rounds_coherent [] P h a = (round_is_idle_on_coherent P h).0 a
rounds_coherent (s ∷ steps) P h a =
    subst (λ t. Coherent (partition_after (split_of P t) steps)) (sym a.0) (rounds_coherent steps (split_of P Round) (IsPartition-split_of P Round h) a.2)

-- version 2 has them
pub rounds_of_version : (steps : List Step) (P : PairColouring) → AreRounds steps P → AllByRecursion (HasStep 2) steps
rounds_of_version [] P a = tt
rounds_of_version (s ∷ steps) P a = (subst (HasStep 2) (sym a.0) refl, rounds_of_version steps (split_of P Round) a.2)

-- there is one list of rounds from a partition
pub rounds_unique : (steps other : List Step) (P : PairColouring) → AreRounds steps P → AreRounds other P → steps ≡ other
rounds_unique [] [] P a b = refl
rounds_unique [] (t ∷ other) P a b = absurd (a b.1)
rounds_unique (s ∷ steps) [] P a b = absurd (b a.1)
rounds_unique (s ∷ steps) (t ∷ other) P a b =
    let again = rounds_unique steps other (split_of P Round) a.2 b.2 in
    λ i. (a.0 ∙ sym b.0) i ∷ again i

-- and there is one, since each round makes a class more
abbrev pub Rounded : PairColouring → Type 0
Rounded P = (steps : List Step) × AreRounds steps P

go_on : (P : PairColouring) → IsPartition P → ((P1 : PairColouring) → IsPartition P1 → P1.size ≡ P.size → rank_of P < rank_of P1 → Rounded P1) → Rounded P
go_on P h again = ⊎_elim
    (λ parts.
    let rest = again (split_of P Round) (IsPartition-split_of P Round h) refl (omega (arith, rank_of-round P h, parts)) in
    (Round ∷ rest.0, (refl, parts, rest.1)))
    (λ idle. ([], idle))
    (has_parts_or_not P Round)

rounds_from : (n fuel : ℕ) (P : PairColouring) → IsPartition P → P.size ≡ n → n + n * n ≤ rank_of P + fuel → Rounded P
rounds_from n zero P h e f = go_on P h (λ P1 h1 s less.
    let most : rank_of P1 ≤ n + n * n = subst (λ z. rank_of P1 ≤ z + z * z) (s ∙ e) (colours_met-le P1) in absurd (omega (arith, most, less, f)))
rounds_from n (suc fuel) P h e f =
    let again = rounds_from n fuel in
    go_on P h (λ P1 h1 s less. again P1 h1 (s ∙ e) (omega (arith, less, f)))

pub rounds_exist : (P : PairColouring) → IsPartition P → Rounded P
rounds_exist P h = rounds_from P.size (P.size + P.size * P.size) P h refl (omega arith)

-- two chains ended at stages of one colouring, or have no stage
abbrev pub HaveSameColours : Option StageEnd → Option StageEnd → Type 0
HaveSameColours None None = Unit {0}
HaveSameColours None (Some other) = ⊥
HaveSameColours (Some before) None = ⊥
HaveSameColours (Some before) (Some other) = before.colours ≡ other.colours

-- what follows one follows the other
follows-same : (before other : Option StageEnd) (C : PairColouring) → HaveSameColours before other → Follows before C → Follows other C
follows-same None None C h f = tt
follows-same None (Some other) C h f = absurd h
follows-same (Some before) None C h f = absurd h
follows-same (Some before) (Some other) C h f = subst (Refines C) h f

pub following-same : (before other : Option StageEnd) (chain : List Stage) → HaveSameColours before other → AreFollowing before chain → AreFollowing other chain
following-same before other [] h f = tt
following-same before other (stage ∷ rest) h f =
    (follows-same before other stage.colours h f.0, following-same (Some (stage_end before stage)) (Some (stage_end other stage)) rest refl f.1)

-- stages follow one another
pub following_from_stages : (before : Option StageEnd) (stages : List Stage) → AreStages before stages → AreFollowing before stages
following_from_stages before [] a = tt
following_from_stages before (stage ∷ rest) a = (a.0.follows, following_from_stages (Some (stage_end before stage)) rest a.1)

-- the partition where the stages up to here ended is coherent
abbrev pub EndsCoherent : Option StageEnd → Type 0
EndsCoherent None = Unit {0}
EndsCoherent (Some before) = Coherent before.partition

-- what a list of stages of rounds keeps
pub record AreRoundsKept (before : Option StageEnd) (rounds : List Stage) : Type 0 where
  pub stages : AreStages before rounds
  pub colours : AllByRecursion (λ stage. IsColouring stage.colours) rounds
  pub coherent : EndsCoherent before → EndsCoherent (end_after before rounds)
  pub versions : AllByRecursion (λ stage. AllByRecursion (HasStep 2) stage.steps) rounds

pub rounds_kept : (before : Option StageEnd) (chain rounds : List Stage) → IsEnd before → AllByRecursion (λ stage. IsColouring stage.colours) chain
    → AreFollowing before chain → AreRoundStages before chain rounds → AreRoundsKept before rounds
rounds_kept before [] [] e c f a = record { stages = tt; colours = tt; coherent = λ h. h; versions = tt }
rounds_kept before [] (round ∷ rounds) e c f a = absurd a
rounds_kept before (stage ∷ rest) [] e c f a = absurd a
rounds_kept before (stage ∷ rest) (round ∷ rounds) e c f a =
    let colouring : IsColouring round.colours = subst IsColouring (sym a.0) c.0 in
    let follows : Follows before round.colours = subst (Follows before) (sym a.0) f.0 in
    let start = start_between before round.colours e colouring follows in
    let own : IsStageOf before round (stage_end before round).partition = record { follows = follows; leads = lead_from_rounds round.steps (stage_start (partition_before before) round.colours) a.1 } in
    let again = rounds_kept (Some (stage_end before round)) rest rounds (end_between before round (stage_end before round).partition e colouring own) c.1
    (following-same (Some (stage_end before stage)) (Some (stage_end before round)) rest (sym a.0) f.1) a.2 in
    record {
      stages = (own, again.stages);
      colours = (colouring, again.colours);
      coherent = λ h. again.coherent (rounds_coherent round.steps (stage_start (partition_before before) round.colours) start.partition a.1);
      versions = (rounds_of_version round.steps (stage_start (partition_before before) round.colours) a.1, again.versions);
    }

pub round_chain_ends_coherent : (chain rounds : List Stage) (last : StageEnd) → AreFollowing None chain → All (λ stage. IsColouring stage.colours) chain
    → IsRoundChain chain rounds → chain_end rounds ≡ Some last → Coherent last.partition
round_chain_ends_coherent chain rounds last f c a e =
    subst EndsCoherent e ((rounds_kept None chain rounds tt (recursion_from_All (λ stage. IsColouring stage.colours) chain c) f a).coherent tt)

-- a chain whose colours follow one another has stages of rounds
pub round_stages_exist : (before : Option StageEnd) (chain : List Stage) → IsEnd before → AllByRecursion (λ stage. IsColouring stage.colours) chain
    → AreFollowing before chain → (rounds : List Stage) × AreRoundStages before chain rounds
round_stages_exist before [] e c f = ([], tt)
round_stages_exist before (stage ∷ rest) e c f =
    let start = start_between before stage.colours e c.0 f.0 in
    let steps = rounds_exist (stage_start (partition_before before) stage.colours) start.partition in
    let round : Stage = record { colours = stage.colours; steps = steps.0 } in
    let own : IsStageOf before round (stage_end before round).partition = record { follows = f.0; leads = lead_from_rounds steps.0 (stage_start (partition_before before) stage.colours) steps.1 } in
    let again = round_stages_exist (Some (stage_end before round)) rest (end_between before round (stage_end before round).partition e c.0 own) c.1
    (following-same (Some (stage_end before stage)) (Some (stage_end before round)) rest refl f.1) in
    (round ∷ again.0, (refl, steps.1, again.1))

pub round_chain_exists : (chain : List Stage) → AreFollowing None chain → All (λ stage. IsColouring stage.colours) chain → (rounds : List Stage) × IsRoundChain chain rounds
round_chain_exists chain f c = round_stages_exist None chain tt (recursion_from_All (λ stage. IsColouring stage.colours) chain c) f

-- and no others
pub round_stages_unique : (before : Option StageEnd) (chain rounds other : List Stage) → AreRoundStages before chain rounds → AreRoundStages before chain other → rounds ≡ other
round_stages_unique before [] [] [] a b = refl
round_stages_unique before [] [] (o ∷ other) a b = absurd b
round_stages_unique before [] (r ∷ rounds) other a b = absurd a
round_stages_unique before (stage ∷ rest) [] other a b = absurd a
round_stages_unique before (stage ∷ rest) (r ∷ rounds) [] a b = absurd b
round_stages_unique before (stage ∷ rest) (r ∷ rounds) (o ∷ other) a b =
    let colours : o.colours ≡ r.colours = b.0 ∙ sym a.0 in
    let steps : o.steps ≡ r.steps =
    rounds_unique o.steps r.steps (stage_start (partition_before before) r.colours) (subst (λ C. AreRounds o.steps (stage_start (partition_before before) C)) colours b.1) a.1 in
    let one : o ≡ r = λ i. record { colours = colours i; steps = steps i } in
    let again = round_stages_unique (Some (stage_end before r)) rest rounds other a.2 (subst (λ z. AreRoundStages (Some (stage_end before z)) rest other) one b.2) in
    λ i. sym one i ∷ again i

pub round_chain_is_unique : (chain rounds other : List Stage) → IsRoundChain chain rounds → IsRoundChain chain other → rounds ≡ other
round_chain_is_unique chain rounds other a b = round_stages_unique None chain rounds other a b

-- they depend on the colours alone
pub round_stages_of_colours : (before : Option StageEnd) (chain other rounds : List Stage) → map (λ stage. stage.colours) chain ≡ map (λ stage. stage.colours) other
    → AreRoundStages before chain rounds → AreRoundStages before other rounds
round_stages_of_colours before [] [] rounds e a = a
round_stages_of_colours before [] (o ∷ other) rounds e a = cc
round_stages_of_colours before (stage ∷ rest) [] rounds e a = cc
round_stages_of_colours before (stage ∷ rest) (o ∷ other) [] e a = absurd a
round_stages_of_colours before (stage ∷ rest) (o ∷ other) (r ∷ rounds) e a =
    let head : stage.colours ≡ o.colours = cc in
    let tail : map (λ (one : Stage). one.colours) rest ≡ map (λ (one : Stage). one.colours) other = cc in
    (a.0 ∙ head, a.1, round_stages_of_colours (Some (stage_end before r)) rest other rounds tail a.2)

pub round_chain_is_of_colours : (chain other rounds : List Stage) → map (λ stage. stage.colours) chain ≡ map (λ stage. stage.colours) other
    → IsRoundChain chain rounds → IsRoundChain other rounds
round_chain_is_of_colours chain other rounds e a = round_stages_of_colours None chain other rounds e a

-- both chains end at stages of one colouring
ends_same : (before other : Option StageEnd) (chain rounds : List Stage) → HaveSameColours before other → AreRoundStages other chain rounds
    → HaveSameColours (end_after before chain) (end_after other rounds)
ends_same before other [] [] h a = h
ends_same before other [] (round ∷ rounds) h a = absurd a
ends_same before other (stage ∷ rest) [] h a = absurd a
ends_same before other (stage ∷ rest) (round ∷ rounds) h a = ends_same (Some (stage_end before stage)) (Some (stage_end other round)) rest rounds (sym a.0) a.2

same_end : (before : StageEnd) (end : Option StageEnd) → HaveSameColours (Some before) end → (last : StageEnd) × (end ≡ Some last) × (last.colours ≡ before.colours)
same_end before None h = absurd h
same_end before (Some last) h = (last, refl, sym h)

-- so the chain of rounds of an accepted claim has the same closure
pub round_claim_is_accepted : (claim : Claim) (rounds : List Stage) → All (λ stage. IsColouring stage.colours) claim.chain → Accepts claim → IsRoundChain claim.chain rounds
    → Accepts (record { version = 2; chain = rounds; closure = claim.closure }) × IsVersioned (record { version = 2; chain = rounds; closure = claim.closure })
round_claim_is_accepted claim rounds c a r =
    let each = recursion_from_All (λ stage. IsColouring stage.colours) claim.chain c in
    let kept = rounds_kept None claim.chain rounds tt each (following_from_stages None claim.chain a.stages) r in
    let end = same_end a.last (chain_end rounds) (subst (λ o. HaveSameColours o (chain_end rounds)) a.ends (ends_same None None claim.chain rounds tt r)) in
    let P : PairColouring = end.0.partition in
    let own : IsBetween a.last.colours a.last.partition = subst IsEnd a.ends (stages_between None claim.chain tt each a.stages) in
    let there : IsBetween end.0.colours P = subst IsEnd end.1 (stages_between None rounds tt kept.colours kept.stages) in
    let here : IsBetween a.last.colours P = subst (λ C. IsBetween C P) end.2 there in
    let coherent : Coherent P = subst EndsCoherent end.1 (kept.coherent tt) in
    let named = named_closure_is_unique a.last.colours claim.closure (named_of P) own.colours
    (closure_at_end a.last.colours a.last.partition claim.closure own a.coherent a.named)
    (closure_at_end a.last.colours P (named_of P) here coherent refl) in (
      record { last = end.0; ends = end.1; stages = kept.stages; coherent = coherent; named = named },
      record { version = record { least = omega arith; most = omega arith }; steps = kept.versions },
    )
