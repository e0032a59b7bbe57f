-- Where the stages of a chain end, and what a coherent end shows.
use Rattle.std.proofs.Common.{◌≡◌, ℕ, ◌+◌, ◌*◌, ◌<◌, ◌≤◌, List, [], ◌∷◌, ◌++◌, length, All, Option, None, Some, refl, sym, ap, subst, ◌∙◌, arith}
use Rattle.std.specs.List.{AllByRecursion}
use Rattle.std.proofs.lemmas.List.Sums.{sum_by-cons, fold_push}
use Rattle.std.proofs.lemmas.List.Elements.{recursion_from_All}
use Rattle.pair_colours.specs.Colouring.{PairColouring, IsColouring}
use Rattle.pair_colours.specs.Closure.{Coherent, IsClosureOf}
use Rattle.pair_colours.specs.Naming.{rank_of, named_of}
use Rattle.pair_colours.proofs.Closures.{IsClosureOf-named_of, refines-named_of, named_of-refines, IsColouring-named_of}
use Rattle.pair_colours.proofs.Places.{Refines-trans}
use Rattle.trace_text.specs.declared.step_list.Step.{Step}
use Rattle.trace_text.specs.declared.stage_list.Stage.{Stage}
use Rattle.trace_text.specs.declared.stage_list.Claim.{Claim}
use Rattle.trace_text.specs.Partition.{meet_of}
use Rattle.trace_text.specs.Split.{Lead}
use Rattle.trace_text.specs.Chains.{StageEnd, Follows, partition_before, stage_start, IsStageOf, stage_end, end_after, chain_end, AreStages}
use Rattle.trace_text.specs.Acceptance.{Accepts, step_count}
use Rattle.trace_text.proofs.Partitions.{IsPartition-named_of, IsPartition-meet_of, rank_of-named_of}
use Rattle.trace_text.proofs.Ranks.{rank_of-le_pairs, rank_of-le_finer, rank_of-some}
use Rattle.trace_text.proofs.Leads.{lead_below, lead_after}
use Rattle.trace_text.proofs.Meeting.{IsNamedMeet-meet_of}
use Rattle.pair_colours.proofs.Meets.{meet_below}
use Rattle.trace_text.specs.Ends.{IsBetween, IsEnd}

-- a stage starts between
pub start_between : (before : Option StageEnd) (C : PairColouring) → IsEnd before → IsColouring C → Follows before C → IsBetween C (stage_start (partition_before before) C)
start_between None C e c f = record {
  colours = c;
  partition = IsPartition-named_of C c;
  refines = named_of-refines C c;
  keeps = λ Q q h r. Refines-trans Q C (named_of C) r (refines-named_of C c);
}
start_between (Some before) C e c f =
    let m = IsNamedMeet-meet_of C before.partition c (f.sizes ∙ sym e.refines.sizes) in
    record {
      colours = c;
      partition = IsPartition-meet_of C before.partition c;
      refines = m.first;
      keeps = λ Q q h r. meet_below Q C before.partition (meet_of C before.partition) m r (e.keeps Q q h (Refines-trans Q C before.colours r f));
    }

-- and ends between
pub end_between : (before : Option StageEnd) (stage : Stage) (P : PairColouring) → IsEnd before → IsColouring stage.colours → IsStageOf before stage P
    → IsBetween stage.colours P
end_between before stage P e c d =
    let s = start_between before stage.colours e c d.follows in
    let b = lead_below stage.steps (stage_start (partition_before before) stage.colours) P s.partition d.leads in
    record {
      colours = c;
      partition = b.partition;
      refines = Refines-trans P (stage_start (partition_before before) stage.colours) stage.colours b.refines s.refines;
      keeps = λ Q q h r. b.keeps Q q h (s.keeps Q q h r);
    }

-- so all stages do
pub stages_between : (before : Option StageEnd) (stages : List Stage) → IsEnd before → AllByRecursion (λ stage. IsColouring stage.colours) stages
    → AreStages before stages → IsEnd (end_after before stages)
stages_between before [] e c h = e
stages_between before (stage ∷ rest) e c h =
    stages_between (Some (stage_end before stage)) rest (end_between before stage (stage_end before stage).partition e c.0 h.0) c.1 h.1

-- a stage ends where its steps lead
pub stage_end-is : (before : Option StageEnd) (stage : Stage) (P : PairColouring) → IsStageOf before stage P → P ≡ (stage_end before stage).partition
stage_end-is before stage P d = lead_after stage.steps (stage_start (partition_before before) stage.colours) P d.leads

-- one stage more
pub AreStages-push : (before : Option StageEnd) (front : List Stage) (last : Stage) (P : PairColouring) → AreStages before front
    → IsStageOf (end_after before front) last P → AreStages before (front ++ last ∷ [])
AreStages-push before [] last P h d = (subst (IsStageOf before last) (stage_end-is before last P d) d, tt)
AreStages-push before (stage ∷ front) last P h d = (h.0, AreStages-push (Some (stage_end before stage)) front last P h.1 d)

pub chain_end-push : (front : List Stage) (last : Stage) → chain_end (front ++ last ∷ []) ≡ Some (stage_end (chain_end front) last)
chain_end-push front last = fold_push (λ earlier stage. Some (stage_end earlier stage)) None front last

-- a chain with a stage has an end
pub some_end : (end : StageEnd) (more : List Stage) → (last : StageEnd) × (end_after (Some end) more ≡ Some last)
some_end end [] = (end, refl)
some_end end (stage ∷ more) = some_end (stage_end (Some end) stage) more

pub chain_ends : (stages : List Stage) → 1 ≤ length stages → (last : StageEnd) × (chain_end stages ≡ Some last)
chain_ends [] some = absurd (omega (arith, some))
chain_ends (stage ∷ more) some = some_end (stage_end None stage) more

-- the naming of a coherent partition in between is the closure
pub closure_at_end : (C P K : PairColouring) → IsBetween C P → Coherent P → K ≡ named_of P → IsClosureOf K C
closure_at_end C P K b h e =
    subst (λ L. IsClosureOf L C) (sym e)
    (IsClosureOf-named_of P C (record { colouring = b.partition.colouring; coherent = h; refines = b.refines; coarsest = b.keeps }))

-- the last stage of an accepted claim ends between
last_between : (claim : Claim) (front : List Stage) (last : Stage) → All (λ stage. IsColouring stage.colours) claim.chain
    → claim.chain ≡ front ++ last ∷ [] → (a : Accepts claim) → IsBetween last.colours a.last.partition
last_between claim front last c e a =
    let between = stages_between None claim.chain tt (recursion_from_All (λ stage. IsColouring stage.colours) claim.chain c) a.stages in
    let here : IsBetween a.last.colours a.last.partition = subst IsEnd a.ends between in
    let same : Some a.last ≡ Some (stage_end (chain_end front) last) = sym a.ends ∙ ap chain_end e ∙ chain_end-push front last in
    let at : a.last ≡ stage_end (chain_end front) last = cc in
    subst (λ C. IsBetween C a.last.partition) (ap (λ (end : StageEnd). end.colours) at) here

pub accepted_is_closure : (claim : Claim) (front : List Stage) (last : Stage) → All (λ stage. IsColouring stage.colours) claim.chain
    → claim.chain ≡ front ++ last ∷ [] → Accepts claim → IsClosureOf claim.closure last.colours
accepted_is_closure claim front last c e a = closure_at_end last.colours a.last.partition claim.closure (last_between claim front last c e a) a.coherent a.named

-- with steps to a coherent partition, and its naming, a chain of one stage more makes an accepted claim
pub accepts_more : (version : ℕ) (front : List Stage) (last : Stage) (P K : PairColouring) → AreStages None front → IsStageOf (chain_end front) last P
    → Coherent P → K ≡ named_of P → Accepts (record { version = version; chain = front ++ last ∷ []; closure = K })
accepts_more version front last P K s d h k =
    let e = stage_end-is (chain_end front) last P d in
    record {
      last = stage_end (chain_end front) last;
      ends = chain_end-push front last;
      stages = AreStages-push None front last P s d;
      coherent = subst Coherent e h;
      named = k ∙ ap named_of e;
    }

-- and so does one stage alone
pub accepts_one : (version : ℕ) (C P K : PairColouring) (steps : List Step) → Lead steps (named_of C) P → Coherent P → K ≡ named_of P
    → Accepts (record { version = version; chain = record { colours = C; steps = steps } ∷ []; closure = K })
accepts_one version C P K steps l h k = accepts_more version [] (record { colours = C; steps = steps }) P K tt (record { follows = tt; leads = l }) h k

-- it has no more steps than the ranks differ by
pub few_steps : (C P : PairColouring) (steps : List Step) → IsColouring C → Lead steps (named_of C) P → rank_of C + length steps ≤ rank_of (named_of P)
few_steps C P steps c l =
    let b = lead_below steps (named_of C) P (IsPartition-named_of C c) l in
    omega (arith, b.rank, rank_of-named_of C c, rank_of-named_of P b.partition.colouring)

-- the rank where the stages up to here ended
abbrev pub rank_before : Option StageEnd → ℕ
rank_before None = 1
rank_before (Some before) = rank_of before.partition

start_rank : (before : Option StageEnd) (C : PairColouring) → IsEnd before → IsColouring C → Follows before C → rank_before before ≤ rank_of (stage_start (partition_before before) C)
start_rank None C e c f = rank_of-some (named_of C) (IsColouring-named_of C c)
start_rank (Some before) C e c f =
    let m = IsNamedMeet-meet_of C before.partition c (f.sizes ∙ sym e.refines.sizes) in
    rank_of-le_finer (meet_of C before.partition) before.partition m.colouring m.second

-- each step makes a class more, and no stage loses one
stages_rank : (before : Option StageEnd) (stages : List Stage) → IsEnd before → AllByRecursion (λ stage. IsColouring stage.colours) stages
    → AreStages before stages → rank_before before + step_count stages ≤ rank_before (end_after before stages)
stages_rank before [] e c h = omega arith
stages_rank before (stage ∷ rest) e c h =
    let end = stage_end before stage in
    let s = start_between before stage.colours e c.0 h.0.follows in
    let b = lead_below stage.steps (stage_start (partition_before before) stage.colours) end.partition s.partition h.0.leads in
    let again = stages_rank (Some end) rest (end_between before stage end.partition e c.0 h.0) c.1 h.1 in
    omega (arith, again, b.rank, start_rank before stage.colours e c.0 h.0.follows, sum_by-cons (λ one. length one.steps) stage rest)

-- so an accepted claim has fewer steps than pairs
pub fewer_steps_than_pairs : (claim : Claim) (front : List Stage) (last : Stage) → All (λ stage. IsColouring stage.colours) claim.chain
    → claim.chain ≡ front ++ last ∷ [] → Accepts claim → step_count claim.chain < last.colours.size * last.colours.size
fewer_steps_than_pairs claim front last c e a =
    let each = recursion_from_All (λ stage. IsColouring stage.colours) claim.chain c in
    let b = last_between claim front last c e a in
    let P : PairColouring = a.last.partition in
    let rank : 1 + step_count claim.chain ≤ rank_of P = subst (λ o. 1 + step_count claim.chain ≤ rank_before o) a.ends (stages_rank None claim.chain tt each a.stages) in
    let most : rank_of P ≤ last.colours.size * last.colours.size = subst (λ n. rank_of P ≤ n * n) b.refines.sizes (rank_of-le_pairs P b.partition.colouring) in
    omega (arith, rank, most)
