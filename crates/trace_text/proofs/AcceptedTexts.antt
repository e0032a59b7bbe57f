-- An accepted claim of raw colourings can be written as a trace.
use Rattle.std.proofs.Common.{◌≡◌, ℕ, ◌*◌, ◌/◌, ◌%◌, ◌<◌, ◌≤◌, List, [], ◌∷◌, length, get_or, All, Option, None, Some, refl, sym, ap, subst, ◌∙◌, arith}
use Rattle.std.specs.List.{AllByRecursion}
use Rattle.std.proofs.lemmas.Nat.{mul-le}
use Rattle.std.proofs.lemmas.List.Elements.{recursion_from_All, All-from_get_or}
use Rattle.pair_colours.specs.Colouring.{PairColouring, IsColouring, IsRawColouring}
use Rattle.pair_colours.specs.declared.coloured_pairs.TheConstants.{MOST_COLOUR, MOST_POINTS}
use Rattle.pair_colours.specs.Naming.{rank_of, named_of}
use Rattle.pair_colours.proofs.ListLemmas.{Each-weaker}
use Rattle.pair_colours.proofs.Places.{at_place, row_below, column_below}
use Rattle.trace_text.specs.declared.limits.TheConstants.{MOST_STEP_NUMBER}
use Rattle.trace_text.specs.declared.step_list.Step.{Step}
use Rattle.trace_text.specs.declared.stage_list.Stage.{Stage}
use Rattle.trace_text.specs.declared.stage_list.Claim.{Claim}
use Rattle.trace_text.specs.Partition.{IsPartition}
use Rattle.trace_text.specs.Split.{numbers_of, split_of, Lead}
use Rattle.trace_text.specs.Chains.{StageEnd, partition_before, stage_start, IsStageOf, stage_end, end_after, AreStages}
use Rattle.trace_text.specs.Acceptance.{Accepts}
use Rattle.trace_text.specs.Versions.{HasStep, IsVersioned}
use Rattle.trace_text.specs.ClaimTexts.{IsTraceStep, IsTraceStage, FitsTrace}
use Rattle.trace_text.proofs.RawNumbers.{raw_from}
use Rattle.trace_text.proofs.Partitions.{IsPartition-named_of}
use Rattle.trace_text.proofs.Ranks.{rank_of-le_pairs}
use Rattle.trace_text.proofs.Splits.{IsPartition-split_of}
use Rattle.trace_text.proofs.Stages.{start_between, end_between, stages_between}
use Rattle.trace_text.specs.Ends.{IsEnd, IsBetween}

-- a partition has no more classes than the most pairs
few_classes : (P : PairColouring) → IsPartition P → P.size ≤ MOST_POINTS → rank_of P ≤ MOST_POINTS * MOST_POINTS
few_classes P p few = omega (arith, rank_of-le_pairs P p.colouring, mul-le P.size P.size MOST_POINTS MOST_POINTS few few)

-- so it is a raw colouring
partition_raw : (P : PairColouring) → IsPartition P → P.size ≤ MOST_POINTS → IsRawColouring P
partition_raw P p few = raw_from P p.colouring few (recursion_from_All (λ colour. colour ≤ MOST_COLOUR) P.colours (All-from_get_or (λ colour. colour ≤ MOST_COLOUR) P.colours 0 small))
  where
    small : (k : ℕ) → k < length P.colours → get_or P.colours k 0 ≤ MOST_COLOUR
    small k l =
        let inside : k < P.size * P.size = subst (λ (n : ℕ). k < n) p.colouring.has_pairs l in
        let low = p.below (k / P.size) (k % P.size) (row_below P.size k p.colouring.has_points inside) (column_below P.size k p.colouring.has_points) in
        omega (arith, few_classes P p few, low, at_place P k)

-- and steps of a version that lead on from it name small numbers
lead_small : (v : ℕ) (steps : List Step) (P P2 : PairColouring) → IsPartition P → P.size ≤ MOST_POINTS → AllByRecursion (HasStep v) steps → Lead steps P P2 → AllByRecursion (IsTraceStep v) steps
lead_small v [] P P2 h few known l = tt
lead_small v (s ∷ steps) P P2 h few known l = (
  record {
    known = known.0;
    numbers = Each-weaker (λ number. number < rank_of P) (λ number. number ≤ MOST_STEP_NUMBER) (λ number low. omega (arith, low, few_classes P h few)) (numbers_of s)
        (recursion_from_All (λ number. number < rank_of P) (numbers_of s) l.0.names);
  },
  lead_small v steps (split_of P s) P2 (IsPartition-split_of P s h) few known.1 l.1,
)

-- the stage has steps of a version
abbrev HasSteps : ℕ → Stage → Type 0
HasSteps v stage = AllByRecursion (HasStep v) stage.steps

-- a stage of n points
stage_fits : (v n : ℕ) (before : Option StageEnd) (stage : Stage) (P : PairColouring) → IsEnd before → stage.colours.size ≡ n → IsRawColouring stage.colours → HasSteps v stage → IsStageOf before stage P
    → IsTraceStage v n stage
stage_fits v n before stage P e size raw known d =
    let s = start_between before stage.colours e raw.fits.colouring d.follows in
    record {
      points = size;
      colours = raw;
      steps = lead_small v stage.steps (stage_start (partition_before before) stage.colours) P s.partition (omega (arith, s.refines.sizes, raw.fits.limit)) known d.leads;
    }

-- the stages after one of n points, and where they end
record FitAfter (v n : ℕ) (end : StageEnd) (rest : List Stage) : Type 0 where
  stages : AllByRecursion (IsTraceStage v n) rest
  size : (last : StageEnd) → end_after (Some end) rest ≡ Some last → last.partition.size ≡ n

rest_fits : (v n : ℕ) (end : StageEnd) (rest : List Stage) → IsBetween end.colours end.partition → end.colours.size ≡ n → AllByRecursion (λ stage. IsRawColouring stage.colours) rest
    → AllByRecursion (HasSteps v) rest → AreStages (Some end) rest → FitAfter v n end rest
rest_fits v n end [] b size raw known h = record {
  stages = tt;
  size = λ last e. let same : end ≡ last = cc in sym (ap (λ (one : StageEnd). one.partition.size) same) ∙ b.refines.sizes ∙ size;
}
rest_fits v n end (stage ∷ rest) b size raw known h =
    let next = stage_end (Some end) stage in
    let own : stage.colours.size ≡ n = h.0.follows.sizes ∙ size in
    let later = rest_fits v n next rest (end_between (Some end) stage next.partition b raw.0.fits.colouring h.0) own raw.1 known.1 h.1 in
    record { stages = (stage_fits v n (Some end) stage next.partition b own raw.0 known.0 h.0, later.stages); size = later.size }

-- all stages of a chain
record FitsChain (v : ℕ) (chain : List Stage) (last : StageEnd) : Type 0 where
  has_stage : 1 ≤ length chain
  stages : AllByRecursion (IsTraceStage v last.partition.size) chain
  limit : last.partition.size ≤ MOST_POINTS

chain_fits : (v : ℕ) (chain : List Stage) (last : StageEnd) → AllByRecursion (λ stage. IsRawColouring stage.colours) chain → AllByRecursion (HasSteps v) chain
    → AreStages None chain → end_after None chain ≡ Some last → FitsChain v chain last
chain_fits v [] last raw known h e = absurd cc
chain_fits v (stage ∷ rest) last raw known h e =
    let end = stage_end None stage in
    let later = rest_fits v stage.colours.size end rest (end_between None stage end.partition tt raw.0.fits.colouring h.0) refl raw.1 known.1 h.1 in
    let size = sym (later.size last e) in
    record {
      has_stage = omega arith;
      stages = (stage_fits v last.partition.size None stage end.partition tt size raw.0 known.0 h.0, subst (λ n. AllByRecursion (IsTraceStage v n) rest) size later.stages);
      limit = omega (arith, size, raw.0.fits.limit);
    }

-- the end of an accepted claim is a partition
last_partition : (claim : Claim) → AllByRecursion (λ stage. IsRawColouring stage.colours) claim.chain → (a : Accepts claim) → IsPartition a.last.partition
last_partition claim raw a =
    let each = Each-weaker (λ stage. IsRawColouring stage.colours) (λ stage. IsColouring stage.colours) (λ stage r. r.fits.colouring) claim.chain raw in
    let between : IsBetween a.last.colours a.last.partition = subst IsEnd a.ends (stages_between None claim.chain tt each a.stages) in
    between.partition

pub accepted_fits_trace : (claim : Claim) → IsVersioned claim → Accepts claim → All (λ stage. IsRawColouring stage.colours) claim.chain → FitsTrace claim
accepted_fits_trace claim known a raw =
    let each = recursion_from_All (λ stage. IsRawColouring stage.colours) claim.chain raw in
    let f = chain_fits claim.version claim.chain a.last each known.steps a.stages a.ends in
    let p = last_partition claim each a in
    let size : a.last.partition.size ≡ claim.closure.size = sym (ap (λ (K : PairColouring). K.size) a.named) in
    record {
      version = known.version;
      has_stage = f.has_stage;
      stages = subst (λ n. AllByRecursion (IsTraceStage claim.version n) claim.chain) size f.stages;
      closure = subst IsRawColouring (sym a.named) (partition_raw (named_of a.last.partition) (IsPartition-named_of a.last.partition p.colouring) f.limit);
    }
