-- Chains that go on, and that end at a closure.
use Rattle.std.proofs.Common.{◌≡◌, ⊎_elim, ℕ, zero, suc, ◌+◌, ◌<◌, ◌≤◌, List, [], ◌∷◌, ◌++◌, length, get_or, take, All, None, Some, refl, sym, ap, subst, ◌∙◌, arith}
use Rattle.std.specs.List.{AllByRecursion}
use Rattle.std.proofs.lemmas.List.{length-append}
use Rattle.std.proofs.lemmas.List.Elements.{All-nil, All-push, recursion_from_All}
use Rattle.pair_colours.specs.Colouring.{PairColouring, IsColouring, IsRawColouring, Refines}
use Rattle.pair_colours.specs.Closure.{Coherent, IsClosureOf}
use Rattle.pair_colours.specs.Naming.{named_of}
use Rattle.pair_colours.proofs.LawProofs.{named_closure_exists, named_closure_is_unique}
use Rattle.trace_text.specs.declared.stage_list.Stage.{Stage}
use Rattle.trace_text.specs.Chains.{Follows, partition_before, stage_start, IsStageOf, chain_end, AreStages}
use Rattle.trace_text.specs.Split.{Lead, partition_after}
use Rattle.trace_text.specs.Acceptance.{Accepts}
use Rattle.trace_text.specs.RoundChains.{AreFollowing}
use Rattle.trace_text.specs.Versions.{HasStep, IsVersioned}
use Rattle.trace_text.proofs.Leads.{lead_after}
use Rattle.trace_text.proofs.Stages.{start_between, end_between, stages_between, chain_end-push, closure_at_end, accepts_more}
use Rattle.trace_text.proofs.RoundChains.{following_from_stages}
use Rattle.trace_text.proofs.Decided.{refines_or_not}
use Rattle.trace_text.proofs.LawProofs.{steps_exist}
use Rattle.recolour_bench.specs.EntryChains.{IsChainOf, claim_by}
use Rattle.recolour_bench.specs.History.{Entry, IsFirstEntry, IsEntryAfter, AreEntriesAfter, AreEntries, no_entry}
use Rattle.trace_text.specs.Ends.{IsBetween, IsEnd}

-- the colours of the stage are within the limits
abbrev pub IsRawStage : Stage → Type 0
IsRawStage stage = IsRawColouring stage.colours

-- its steps are on one class each
abbrev pub IsOfOneClass : Stage → Type 0
IsOfOneClass stage = AllByRecursion (HasStep 1) stage.steps

-- the colouring of the entry is within the limits
abbrev pub IsRawEntry : Entry → Type 0
IsRawEntry entry = IsRawColouring entry.colouring

-- a stage of the colours C may stand after these stages
pub record MayGoOn (before : List Stage) (C : PairColouring) : Type 0 where
  pub stages : AreStages None before
  pub end : IsEnd (chain_end before)
  pub follows : Follows (chain_end before) C

pub MayGoOn-none : (C : PairColouring) → MayGoOn [] C
MayGoOn-none C = record { stages = tt; end = tt; follows = tt }

-- with steps on one class each to a coherent partition it makes a chain of C
pub IsChainOf-made : (C P : PairColouring) (before chain : List Stage) (stage : Stage) → IsColouring C → MayGoOn before C → stage.colours ≡ C
    → Lead stage.steps (stage_start (partition_before (chain_end before)) C) P → IsOfOneClass stage → Coherent P → chain ≡ before ++ stage ∷ [] → IsChainOf C before chain
IsChainOf-made C P before chain stage c may same leads one_class coherent is = record {
  stage = stage;
  colours = same;
  stages = is;
  one_class = one_class;
  accepted = λ K k. subst (λ (stages : List Stage). Accepts (claim_by stages K)) (sym is) (accepts_more 1 before stage P K may.stages follows coherent (closure_is K k));
}
  where
    follows : IsStageOf (chain_end before) stage P
    follows = record {
      follows = subst (Follows (chain_end before)) (sym same) may.follows;
      leads = subst (λ D. Lead stage.steps (stage_start (partition_before (chain_end before)) D) P) (sym same) leads;
    }

    between : IsBetween C P
    between = subst (λ D. IsBetween D P) same (end_between (chain_end before) stage P may.end (subst IsColouring (sym same) c) follows)

    closure_is : (K : PairColouring) → IsClosureOf K C → K ≡ named_of P
    closure_is K k = named_closure_is_unique C K (named_of P) c k (closure_at_end C P (named_of P) between coherent refl)

-- and the chain ends where the steps do
pub chain_end-made : (C P : PairColouring) (before chain : List Stage) (stage : Stage) → stage.colours ≡ C → Lead stage.steps (stage_start (partition_before (chain_end before)) C) P
    → chain ≡ before ++ stage ∷ [] → chain_end chain ≡ Some (record { colours = C; partition = P })
chain_end-made C P before chain stage same leads is =
    ap chain_end is ∙ chain_end-push before stage
    ∙ (λ i. Some (record { colours = same i; partition = partition_after (stage_start (partition_before (chain_end before)) (same i)) stage.steps }))
    ∙ (λ i. Some (record { colours = C; partition = sym (lead_after stage.steps (stage_start (partition_before (chain_end before)) C) P leads) i }))

-- some steps do
pub chain_exists : (C : PairColouring) (before : List Stage) → IsColouring C → MayGoOn before C → (chain : List Stage) × IsChainOf C before chain
chain_exists C before c may =
    let start = start_between (chain_end before) C may.end c may.follows in
    let led = steps_exist (stage_start (partition_before (chain_end before)) C) start.partition in
    let stage : Stage = record { colours = C; steps = led.0 } in
    let P = led.1 in
    (before ++ stage ∷ [], IsChainOf-made C P before (before ++ stage ∷ []) stage c may refl led.4 led.5 led.3 refl)

-- the chain of the entry shows the closure of its colouring, and has at most n stages, all within the limits and with steps on one class each
pub record IsSound (n : ℕ) (entry : Entry) : Type 0 where
  pub raw : IsRawColouring entry.colouring
  pub front : List Stage
  pub chain : IsChainOf entry.colouring front entry.chain
  pub colours : All IsRawStage entry.chain
  pub one_class : All IsOfOneClass entry.chain
  pub few : length entry.chain ≤ n

pub IsSound-made : (n : ℕ) (C : PairColouring) (before : List Stage) (entry : Entry) → IsRawColouring C → entry.colouring ≡ C → IsChainOf C before entry.chain
    → All IsRawStage before → All IsOfOneClass before → length before ≤ n → IsSound (n + 1) entry
IsSound-made n C before entry c same chain all one_class short = record {
  raw = subst IsRawColouring (sym same) c;
  front = before;
  chain = subst (λ D. IsChainOf D before entry.chain) (sym same) chain;
  colours = subst (All IsRawStage) (sym chain.stages) (All-push IsRawStage before chain.stage all (subst IsRawColouring (sym chain.colours) c));
  one_class = subst (All IsOfOneClass) (sym chain.stages) (All-push IsOfOneClass before chain.stage one_class chain.one_class);
  few = omega (arith, ap length chain.stages, length-append before (chain.stage ∷ []), short);
}

-- the claim of the chain and the closure
claim_of : (n : ℕ) (entry : Entry) → IsSound n entry → (K : PairColouring) × Accepts (claim_by entry.chain K)
claim_of n entry s =
    let k = named_closure_exists entry.colouring s.raw.fits.colouring in
    (k.0, s.chain.accepted k.0 k.1)

-- which is of version 1
pub IsVersioned-sound : (n : ℕ) (entry : Entry) (K : PairColouring) → IsSound n entry → IsVersioned (claim_by entry.chain K)
IsVersioned-sound n entry K s = record { version = record { least = omega arith; most = omega arith }; steps = recursion_from_All IsOfOneClass entry.chain s.one_class }

-- the stages are of colourings, and follow one another
pub colourings-sound : (n : ℕ) (entry : Entry) → IsSound n entry → All (λ stage. IsColouring stage.colours) entry.chain
colourings-sound n entry s = λ i d l. (s.colours i d l).fits.colouring

pub following-sound : (n : ℕ) (entry : Entry) → IsSound n entry → AreFollowing None entry.chain
following-sound n entry s = following_from_stages None entry.chain (claim_of n entry s).1.stages

-- the chain ends between its colouring and its closure
pub IsEnd-sound : (n : ℕ) (entry : Entry) → IsSound n entry → IsEnd (chain_end entry.chain)
IsEnd-sound n entry s =
    stages_between None entry.chain tt (recursion_from_All (λ stage. IsColouring stage.colours) entry.chain (colourings-sound n entry s)) (claim_of n entry s).1.stages

-- so another may go on from it
pub MayGoOn-sound : (n : ℕ) (entry : Entry) (C : PairColouring) → IsSound n entry → Refines C entry.colouring → MayGoOn entry.chain C
MayGoOn-sound n entry C s r = record {
  stages = (claim_of n entry s).1.stages;
  end = IsEnd-sound n entry s;
  follows =
      subst (λ end. Follows end C) (sym (ap chain_end s.chain.stages ∙ chain_end-push s.front s.chain.stage))
      (subst (Refines C) (sym s.chain.colours) r);
}

-- an entry after a sound one is sound
pub IsSound-after : (n : ℕ) (before : Entry) (C : PairColouring) (entry : Entry) → IsSound n before → IsRawColouring C → IsEntryAfter before C entry → IsSound (n + 1) entry
IsSound-after n before C entry s c after = ⊎_elim
    (λ r. IsSound-made n C before.chain entry c after.colouring (after.goes_on r) s.colours s.one_class s.few)
    (λ not. IsSound-made n C [] entry c after.colouring (after.starts not) (All-nil IsRawStage) (All-nil IsOfOneClass) (omega arith))
    (refines_or_not C before.colouring)

sound_after : (n : ℕ) (before : Entry) (rest : List Entry) (p : ℕ) → IsSound n before → AreEntriesAfter before rest → AllByRecursion IsRawEntry rest → p < length rest
    → IsSound (n + p + 1) (get_or rest p no_entry)
sound_after n before [] p s all raw l = absurd (omega (arith, l))
sound_after n before (entry ∷ rest) zero s all raw l = subst (λ m. IsSound m entry) (omega arith) (IsSound-after n before entry.colouring entry s raw.0 all.0)
sound_after n before (entry ∷ rest) (suc p) s all raw l =
    subst (λ m. IsSound m (get_or rest p no_entry)) (omega arith)
    (sound_after (n + 1) entry rest p (IsSound-after n before entry.colouring entry s raw.0 all.0) all.1 raw.1 (omega (arith, l)))

sound_by_recursion : (entries : List Entry) (p : ℕ) → AreEntries entries → AllByRecursion IsRawEntry entries → p < length entries → IsSound (p + 1) (get_or entries p no_entry)
sound_by_recursion [] p all raw l = absurd (omega (arith, l))
sound_by_recursion (first ∷ rest) zero all raw l = IsSound-made 0 first.colouring [] first raw.0 refl all.0.chain (All-nil IsRawStage) (All-nil IsOfOneClass) (omega arith)
sound_by_recursion (first ∷ rest) (suc p) all raw l =
    subst (λ m. IsSound m (get_or rest p no_entry)) (omega arith)
    (sound_after 1 first rest p (IsSound-made 0 first.colouring [] first raw.0 refl all.0.chain (All-nil IsRawStage) (All-nil IsOfOneClass) (omega arith)) all.1 raw.1 (omega (arith, l)))

-- each entry is
pub sound_at : (entries : List Entry) (p : ℕ) → AreEntries entries → All IsRawEntry entries → p < length entries → IsSound (p + 1) (get_or entries p no_entry)
sound_at entries p all raw l = sound_by_recursion entries p all (recursion_from_All IsRawEntry entries raw) l

-- some entry of C is a first one, and some is one after a sound one
pub first_exists : (C : PairColouring) → IsColouring C → (entry : Entry) × IsFirstEntry C entry
first_exists C c =
    let made = chain_exists C [] c (MayGoOn-none C) in
    (record { colouring = C; chain = made.0 }, record { colouring = refl; chain = made.1 })

pub after_exists : (n : ℕ) (before : Entry) (C : PairColouring) → IsSound n before → IsColouring C → (entry : Entry) × IsEntryAfter before C entry
after_exists n before C s c = ⊎_elim
    (λ r. let made = chain_exists C before.chain c (MayGoOn-sound n before C s r) in
    let entry : Entry = record { colouring = C; chain = made.0 } in
    (entry, record { colouring = refl; goes_on = λ _. made.1; starts = λ not. absurd (not r) }))
    (λ not. let made = chain_exists C [] c (MayGoOn-none C) in
    let entry : Entry = record { colouring = C; chain = made.0 } in
    (entry, record { colouring = refl; goes_on = λ r. absurd (not r); starts = λ _. made.1 }))
    (refines_or_not C before.colouring)

-- entries up to p, and then one after the entry at p
after_push : (before : Entry) (rest : List Entry) (p : ℕ) (C : PairColouring) (entry : Entry) → AreEntriesAfter before rest → p ≤ length rest
    → IsEntryAfter (get_or (before ∷ rest) p no_entry) C entry → AreEntriesAfter before (take p rest ++ entry ∷ [])
after_push before rest zero C entry all l after = (subst (λ D. IsEntryAfter before D entry) (sym after.colouring) after, tt)
after_push before [] (suc p) C entry all l after = absurd (omega (arith, l))
after_push before (next ∷ rest) (suc p) C entry all l after = (all.0, after_push next rest p C entry all.1 (omega (arith, l)) after)

pub AreEntries-push : (entries : List Entry) (p : ℕ) (C : PairColouring) (entry : Entry) → AreEntries entries → p < length entries
    → IsEntryAfter (get_or entries p no_entry) C entry → AreEntries (take (p + 1) entries ++ entry ∷ [])
AreEntries-push [] p C entry all l after = absurd (omega (arith, l))
AreEntries-push (first ∷ rest) p C entry all l after =
    subst (λ m. AreEntries (take m (first ∷ rest) ++ entry ∷ [])) (suc-is p)
    (all.0, after_push first rest p C entry all.1 (omega (arith, l)) after)
  where
    suc-is : (m : ℕ) → suc m ≡ m + 1
    suc-is m = omega arith
