-- Stages of rounds, made one after the other.
use Rattle.std.proofs.Common.{◌≡◌, ℕ, ◌+◌, ◌<◌, ◌≤◌, List, [], ◌∷◌, ◌++◌, length, All, get_or, drop, Option, None, Some, refl, sym, ap, subst, ◌∙◌}
use Rattle.std.specs.Prelude.{IfSome}
use Rattle.std.proofs.lemmas.List.{append_assoc, append-nil, drop_more, drop_all}
use Rattle.std.proofs.lemmas.List.Elements.{All-get_or}
use Rattle.pair_colours.specs.Colouring.{PairColouring, IsColouring, IsSamePartition}
use Rattle.pair_colours.specs.Naming.{named_of}
use Rattle.pair_colours.proofs.Closures.{named_of-named_of}
use Rattle.trace_text.specs.declared.step_list.Step.{Step}
use Rattle.trace_text.specs.declared.stage_list.Stage.{Stage}
use Rattle.trace_text.specs.Partition.{IsPartition}
use Rattle.trace_text.specs.Split.{partition_after}
use Rattle.trace_text.specs.Chains.{StageEnd, Follows, partition_before, stage_start, stage_end, chain_end}
use Rattle.trace_text.specs.RoundChains.{AreRounds, AreRoundStages, IsRoundChain, AreFollowing}
use Rattle.trace_text.proofs.Leads.{lead_below}
use Rattle.trace_text.proofs.Partitions.{IsPartition-named_of, IsPartition-meet_of}
use Rattle.trace_text.proofs.RoundChains.{lead_from_rounds, following-same}
use Rattle.trace_text.proofs.RoundSteps.{meet_of-same}
use Rattle.trace_text.proofs.Stages.{chain_end-push}
use Rattle.trace_text.proofs.Starts.{named_of-stage_start}
use Rattle.wl_refine.proofs.MadeRounds.{IsPartition-named}

-- a partition has the classes of that where a stage ended
pub record HasClassesOf (last : PairColouring) (end : StageEnd) : Type 0 where
  pub kept : IsPartition last
  pub partition : IsPartition end.partition
  pub same : IsSamePartition last end.partition
  pub sizes : end.partition.size ≡ end.colours.size

-- the partition that is kept has the classes of that where the last stage ended, if there is one
abbrev pub KeepsClasses : Option PairColouring → Option StageEnd → Type 0
KeepsClasses None None = Unit {0}
KeepsClasses None (Some end) = ⊥
KeepsClasses (Some last) None = ⊥
KeepsClasses (Some last) (Some end) = HasClassesOf last end

-- where a stage starts, from what is kept
pub record StartsAt (last : Option PairColouring) (before : Option StageEnd) (C : PairColouring) : Type 0 where
  pub sizes_before : IfSome last (λ P. C.size ≡ P.size)
  pub is : stage_start last C ≡ stage_start (partition_before before) C
  pub partition : IsPartition (stage_start (partition_before before) C)
  pub named : named_of (stage_start (partition_before before) C) ≡ stage_start (partition_before before) C
  pub sizes : (stage_start (partition_before before) C).size ≡ C.size

pub starts_at : (last : Option PairColouring) (before : Option StageEnd) (C : PairColouring) → KeepsClasses last before → IsColouring C → Follows before C → StartsAt last before C
starts_at None None C k c f = record { sizes_before = tt; is = refl; partition = IsPartition-named_of C c; named = named_of-named_of C c; sizes = refl }
starts_at None (Some before) C k c f = absurd k
starts_at (Some last) None C k c f = absurd k
starts_at (Some last) (Some before) C k c f =
    let sizes : last.size ≡ C.size = k.same.finer.sizes ∙ k.sizes ∙ sym f.sizes in
    record {
      sizes_before = sym sizes;
      is = meet_of-same C last before.partition c (sym sizes) k.same;
      partition = IsPartition-meet_of C before.partition c;
      named = named_of-stage_start (Some before.partition) C c (sym (k.sizes ∙ sym f.sizes));
      sizes = refl;
    }

-- the chain has the stages of rounds of the first i stages, and can go on with those of the others
pub record AreRoundedTo (stages : List Stage) (i : ℕ) (chain : List Stage) (last : Option PairColouring) : Type 0 where
  pub goes_on : (rest : List Stage) → AreRoundStages (chain_end chain) (drop i stages) rest → IsRoundChain stages (chain ++ rest)
  pub following : AreFollowing (chain_end chain) (drop i stages)
  pub keeps : KeepsClasses last (chain_end chain)

pub rounded_none : (stages chain : List Stage) → AreFollowing None stages → chain ≡ [] → AreRoundedTo stages 0 chain None
rounded_none stages chain f e = subst (λ l. AreRoundedTo stages 0 l None) (sym e) (record { goes_on = λ rest h. h; following = f; keeps = tt })

-- the next stage follows
left_at : (stages : List Stage) (i : ℕ) (stage : Stage) → i < length stages → stage ≡ get_or stages i stage → drop i stages ≡ stage ∷ drop (i + 1) stages
left_at stages i stage l at = drop_more stages i stage l ∙ ap (λ one. one ∷ drop (i + 1) stages) (sym at)

pub colouring_at : (stages : List Stage) (i : ℕ) (stage : Stage) → i < length stages → stage ≡ get_or stages i stage → All (λ one. IsColouring one.colours) stages
    → IsColouring stage.colours
colouring_at stages i stage l at all =
    subst (λ (one : Stage). IsColouring one.colours) (sym at) (All-get_or (λ (one : Stage). IsColouring one.colours) stages i stage l all)

pub next_starts : (stages : List Stage) (i : ℕ) (chain : List Stage) (last : Option PairColouring) (stage : Stage) → i < length stages → stage ≡ get_or stages i stage
    → AreRoundedTo stages i chain last → IsColouring stage.colours → StartsAt last (chain_end chain) stage.colours
next_starts stages i chain last stage l at r c =
    starts_at last (chain_end chain) stage.colours r.keeps c (subst (AreFollowing (chain_end chain)) (left_at stages i stage l at) r.following).0

-- what a stage of rounds is from where it starts
pub record IsRoundedStage (start : PairColouring) (stage round : Stage) (end : PairColouring) : Type 0 where
  pub colours : round.colours ≡ stage.colours
  pub rounds : AreRounds round.steps start
  pub same : IsSamePartition end (partition_after start round.steps)
  pub colouring : IsColouring end
  pub named : named_of end ≡ end

pub rounded_stage : (last : Option PairColouring) (stage : Stage) (steps : List Step) (start colours end : PairColouring) → start ≡ stage_start last stage.colours
    → colours ≡ stage.colours → AreRounds steps start → IsSamePartition end (partition_after start steps) → IsColouring end → named_of end ≡ end
    → IsRoundedStage (stage_start last stage.colours) stage (record { colours = colours; steps = steps }) end
rounded_stage last stage steps start colours end e copy rounds same c n =
    subst (λ A. IsRoundedStage A stage (record { colours = colours; steps = steps }) end) e
    (record { colours = copy; rounds = rounds; same = same; colouring = c; named = n })

-- where it ends
stage_keeps : (before : Option StageEnd) (round : Stage) (end : PairColouring) → IsPartition (stage_start (partition_before before) round.colours)
    → (stage_start (partition_before before) round.colours).size ≡ round.colours.size → IsRoundedStage (stage_start (partition_before before) round.colours) round round end
    → HasClassesOf end (stage_end before round)
stage_keeps before round end h sizes s =
    let start = stage_start (partition_before before) round.colours in
    let below = lead_below round.steps start (partition_after start round.steps) h (lead_from_rounds round.steps start s.rounds) in
    record {
      kept = IsPartition-named end s.colouring s.named;
      partition = below.partition;
      same = s.same;
      sizes = below.refines.sizes ∙ sizes;
    }

-- one stage more
pub rounded_more : (stages : List Stage) (i : ℕ) (chain new : List Stage) (last : Option PairColouring) (stage round : Stage) (end : PairColouring)
    → i < length stages → stage ≡ get_or stages i stage → AreRoundedTo stages i chain last → IsColouring stage.colours
    → IsRoundedStage (stage_start last stage.colours) stage round end → new ≡ chain ++ round ∷ [] → AreRoundedTo stages (i + 1) new (Some end)
rounded_more stages i chain new last stage round end l at r c s e =
    let before = chain_end chain in
    let more = left_at stages i stage l at in
    let f = subst (AreFollowing before) more r.following in
    let starts : StartsAt last before stage.colours = starts_at last before stage.colours r.keeps c f.0 in
    let starts2 : StartsAt last before round.colours = subst (StartsAt last before) (sym s.colours) starts in
    let is : stage_start last stage.colours ≡ stage_start (partition_before before) round.colours = starts.is ∙ ap (stage_start (partition_before before)) (sym s.colours) in
    let rounds : AreRounds round.steps (stage_start (partition_before before) round.colours) = subst (AreRounds round.steps) is s.rounds in
    let same : IsSamePartition end (partition_after (stage_start (partition_before before) round.colours) round.steps) =
    subst (λ A. IsSamePartition end (partition_after A round.steps)) is s.same in
    let ends : Some (stage_end before round) ≡ chain_end new = sym (ap chain_end e ∙ chain_end-push chain round) in
    record {
      goes_on = λ rest h.
          let later : AreRoundStages (Some (stage_end before round)) (drop (i + 1) stages) rest = subst (λ o. AreRoundStages o (drop (i + 1) stages) rest) (sym ends) h in
          let on : IsRoundChain stages (chain ++ round ∷ rest) = r.goes_on (round ∷ rest)
          (subst (λ xs. AreRoundStages before xs (round ∷ rest)) (sym more) (s.colours, rounds, later)) in
          subst (IsRoundChain stages) (sym (ap (λ xs. xs ++ rest) e ∙ append_assoc chain (round ∷ []) rest)) on;
      following = subst (λ o. AreFollowing o (drop (i + 1) stages)) ends
          (following-same (Some (stage_end before stage)) (Some (stage_end before round)) (drop (i + 1) stages) (sym s.colours) f.1);
      keeps = subst (KeepsClasses (Some end)) ends
          (stage_keeps before round end starts2.partition starts2.sizes
          (record { colours = refl; rounds = rounds; same = same; colouring = s.colouring; named = s.named }));
    }

-- all of them
pub rounded_all : (stages : List Stage) (i : ℕ) (chain : List Stage) (last : Option PairColouring) → length stages ≤ i → AreRoundedTo stages i chain last → IsRoundChain stages chain
rounded_all stages i chain last l r =
    subst (IsRoundChain stages) (append-nil chain)
    (r.goes_on [] (subst (λ xs. AreRoundStages (chain_end chain) xs []) (sym (drop_all i stages l)) tt))
