-- What is kept of a history.
use Rattle.std.proofs.Common.{◌≡◌, ◌<◌, ◌≤◌, ◌+◌, ◌++◌, ℕ, List, [], ◌∷◌, length, get_or, take, drop, map, Option, Some, None, ⊎_elim, refl, sym, ap, subst, ◌∙◌, arith}
use Rattle.std.specs.List.{range_with_len}
use Rattle.std.proofs.lemmas.Bool.{cases_eq}
use Rattle.std.proofs.lemmas.List.{length-append, length-take, drop-append-le, drop_all, get_or-take, get_or_default, take-append-le, take-take, take_all, same_lists}
use Rattle.std.proofs.lemmas.List.FromFn.{length-map-range_with_len, get_or-map-range_with_len, map-range_with_len_more, take-map-range_with_len}
use Rattle.std.proofs.Math.Seq.{get_or-append_seam}
use Rattle.pair_colours.specs.Colouring.{PairColouring, IsColouring, IsRawColouring, Refines}
use Rattle.pair_colours.specs.Closure.{Coherent, IsClosureOf}
use Rattle.pair_colours.proofs.Places.{Refines-trans}
use Rattle.trace_text.specs.declared.stage_list.Stage.{Stage}
use Rattle.trace_text.specs.Chains.{partition_before, stage_start, chain_end}
use Rattle.trace_text.specs.Split.{Lead}
use Rattle.trace_text.proofs.Decided.{refines_or_not}
use Rattle.wl_refine.specs.Closed.{IsForced}
use Rattle.recolour_bench.specs.declared.edits.EditFault.{EditFault}
use Rattle.recolour_bench.specs.declared.kept.Kept.{Kept}
use Rattle.recolour_bench.specs.declared.chaining.Made.{Made}
use Rattle.recolour_bench.specs.Edits.{Edit}
use Rattle.recolour_bench.specs.EntryChains.{IsChainOf}
use Rattle.recolour_bench.specs.History.{Entry, IsEntryAfter, Starts, no_entry, entry_at}
use Rattle.recolour_bench.specs.Steps.{edits, Makes, IsRefusedAt, EditStep, RedoStep, IsRefused}
use Rattle.recolour_bench.specs.Kept.{no_stage, no_kept, entry_kept, history_of, IsKeptOf, IsKeptHistory, IsMadeFrom}
use Rattle.recolour_bench.proofs.Chains.{IsOfOneClass, IsSound, MayGoOn, MayGoOn-none, MayGoOn-sound, IsEnd-sound, IsChainOf-made, chain_end-made, sound_at}
use Rattle.recolour_bench.proofs.Stepping.{IsHistory-edited, start_is_history}
use Rattle.trace_text.specs.Ends.{IsBetween, IsEnd}

-- an entry of a stage and of what is kept, of the stages up to here
abbrev pub entry_by : List Stage → Stage → Kept → Entry
entry_by stages stage kept = record { colouring = stage.colours; chain = drop kept.start stages }

-- the entry at the position, of the stage and of what is kept of it
pub record IsPresentEntry (stages : List Stage) (kept : List Kept) (position : ℕ) (stage : Stage) (now : Kept) : Type 0 where
  pub low : position < length stages
  pub low_kept : position < length kept
  pub is : entry_at (history_of stages kept position) ≡ entry_by (take (position + 1) stages) stage now
  pub sound : IsSound (position + 1) (entry_by (take (position + 1) stages) stage now)
  pub of : IsKeptOf (entry_by (take (position + 1) stages) stage now) now
  pub start : now.start ≤ position

pub low_from : (stages : List Stage) (kept : List Kept) (position : ℕ) → IsKeptHistory stages kept position → position < length stages
low_from stages kept position k = omega (arith, k.history.inside, length-map-range_with_len (entry_kept stages kept) 0 (length stages))

pub IsPresentEntry-read : (stages : List Stage) (kept : List Kept) (position : ℕ) (stage : Stage) (now : Kept) → IsKeptHistory stages kept position
    → stage ≡ get_or stages position stage → now ≡ get_or kept position now → IsPresentEntry stages kept position stage now
IsPresentEntry-read stages kept position stage now k s n = record {
  low = low;
  low_kept = low_kept;
  is = at ∙ here;
  sound =
      subst (IsSound (position + 1)) (at ∙ here)
      (sound_at (history_of stages kept position).entries position k.history.chains k.history.within k.history.inside);
  of = subst (IsKeptOf (entry_by (take (position + 1) stages) stage now)) now_is (subst (λ E. IsKeptOf E (get_or kept position no_kept)) here (k.entries position low));
  start = subst (λ (a : Kept). a.start ≤ position) now_is (k.starts position low);
}
  where
    low : position < length stages
    low = low_from stages kept position k

    low_kept : position < length kept
    low_kept = omega (arith, low, k.lengths)

    stage_is : get_or stages position no_stage ≡ stage
    stage_is = get_or_default stages position no_stage stage low ∙ sym s

    now_is : get_or kept position no_kept ≡ now
    now_is = get_or_default kept position no_kept now low_kept ∙ sym n

    at : entry_at (history_of stages kept position) ≡ entry_kept stages kept position
    at = get_or-map-range_with_len (entry_kept stages kept) 0 (length stages) position position no_entry low (omega arith)

    here : entry_kept stages kept position ≡ entry_by (take (position + 1) stages) stage now
    here = λ i. entry_by (take (position + 1) stages) (stage_is i) (now_is i)

-- the chain of the present entry ends between its colouring and its closure
pub between : (stages : List Stage) (kept : List Kept) (position : ℕ) (stage : Stage) (now : Kept) → IsPresentEntry stages kept position stage now → IsBetween stage.colours now.last
between stages kept position stage now here =
    subst IsEnd here.of.ends (IsEnd-sound (position + 1) (entry_by (take (position + 1) stages) stage now) here.sound)

-- so it is forced below each finer colouring
pub IsForced-present : (stages : List Stage) (kept : List Kept) (position : ℕ) (stage : Stage) (now : Kept) (C : PairColouring) → IsPresentEntry stages kept position stage now
    → Refines C stage.colours → IsForced C now.last
IsForced-present stages kept position stage now C here r =
    λ Q q h s. (between stages kept position stage now here).keeps Q q h (Refines-trans Q C stage.colours s r)

-- what an edit made of the entry of the colouring before at a place
pub record IsMadeBy (before : PairColouring) (now : Kept) (place : ℕ) (raw : PairColouring) (made : Made) : Type 0 where
  pub colours : made.stage.colours ≡ raw
  pub closure : IsClosureOf made.kept.closure raw
  pub goes_on : Refines raw before → IsMadeFrom (stage_start (Some now.last) raw) now.start made
  pub starts : ¬ Refines raw before → IsMadeFrom (stage_start None raw) (place + 1) made

-- the entry that it makes
abbrev pub entry_made : List Stage → ℕ → Made → Entry
entry_made stages position made = entry_by (take (position + 1) stages ++ made.stage ∷ []) made.stage made.kept

-- its chain: a stage after those before, which leads to P
record IsLed (C P : PairColouring) (before chain : List Stage) (stage : Stage) : Type 0 where
  may : MayGoOn before C
  leads : Lead stage.steps (stage_start (partition_before (chain_end before)) C) P
  one_class : IsOfOneClass stage
  coherent : Coherent P
  is : chain ≡ before ++ stage ∷ []

length-front : (stages : List Stage) (position : ℕ) → position < length stages → length (take (position + 1) stages) ≡ position + 1
length-front stages position l = omega (arith, length-take (position + 1) stages, l)

led_on : (stages : List Stage) (kept : List Kept) (position : ℕ) (stage : Stage) (now : Kept) (raw : PairColouring) (made : Made) → IsPresentEntry stages kept position stage now
    → IsColouring raw → IsMadeBy stage.colours now position raw made → Refines raw stage.colours
    → IsLed raw made.kept.last (drop now.start (take (position + 1) stages)) (entry_made stages position made).chain made.stage
led_on stages kept position stage now raw made here c m r = record {
  may = MayGoOn-sound (position + 1) (entry_by (take (position + 1) stages) stage now) raw here.sound r;
  leads = subst (λ P. Lead made.stage.steps P made.kept.last) (sym (ap (λ end. stage_start (partition_before end) raw) here.of.ends)) (m.goes_on r).leads;
  one_class = (m.goes_on r).one_class;
  coherent = (m.goes_on r).coherent;
  is =
      ap (λ start. drop start (take (position + 1) stages ++ made.stage ∷ [])) (m.goes_on r).start
      ∙ drop-append-le now.start (take (position + 1) stages) (made.stage ∷ []) (omega (arith, here.start, length-front stages position here.low));
}

led_anew : (stages : List Stage) (position : ℕ) (before : PairColouring) (now : Kept) (raw : PairColouring) (made : Made) → position < length stages
    → IsMadeBy before now position raw made → ¬ Refines raw before → IsLed raw made.kept.last [] (entry_made stages position made).chain made.stage
led_anew stages position before now raw made l m not = record {
  may = MayGoOn-none raw;
  leads = (m.starts not).leads;
  one_class = (m.starts not).one_class;
  coherent = (m.starts not).coherent;
  is =
      ap (λ start. drop start (front ++ made.stage ∷ [])) (m.starts not).start
      ∙ drop-append-le (position + 1) front (made.stage ∷ []) (omega (arith, len))
      ∙ ap (λ xs. xs ++ made.stage ∷ []) (drop_all (position + 1) front (omega (arith, len)));
}
  where
    front : List Stage
    front = take (position + 1) stages

    len : length front ≡ position + 1
    len = length-front stages position l

chain_led : (C P : PairColouring) (before chain : List Stage) (stage : Stage) → IsColouring C → stage.colours ≡ C → IsLed C P before chain stage → IsChainOf C before chain
chain_led C P before chain stage c same d = IsChainOf-made C P before chain stage c d.may same d.leads d.one_class d.coherent d.is

end_led : (C P : PairColouring) (before chain : List Stage) (stage : Stage) → stage.colours ≡ C → IsLed C P before chain stage
    → chain_end chain ≡ Some (record { colours = stage.colours; partition = P })
end_led C P before chain stage same d = chain_end-made C P before chain stage same d.leads d.is ∙ (λ i. Some (record { colours = sym same i; partition = P }))

-- it is an entry after the present one
after-made : (stages : List Stage) (kept : List Kept) (position : ℕ) (stage : Stage) (now : Kept) (raw : PairColouring) (made : Made) → IsPresentEntry stages kept position stage now
    → IsColouring raw → IsMadeBy stage.colours now position raw made → IsEntryAfter (entry_by (take (position + 1) stages) stage now) raw (entry_made stages position made)
after-made stages kept position stage now raw made here c m = record {
  colouring = m.colours;
  goes_on = λ r. chain_led raw made.kept.last (drop now.start (take (position + 1) stages)) (entry_made stages position made).chain made.stage c m.colours (led_on stages kept position stage now raw made here c m r);
  starts = λ not. chain_led raw made.kept.last [] (entry_made stages position made).chain made.stage c m.colours (led_anew stages position stage.colours now raw made here.low m not);
}

-- and what is kept is of it
kept-made : (stages : List Stage) (kept : List Kept) (position : ℕ) (stage : Stage) (now : Kept) (raw : PairColouring) (made : Made) → IsPresentEntry stages kept position stage now
    → IsColouring raw → IsMadeBy stage.colours now position raw made → IsKeptOf (entry_made stages position made) made.kept
kept-made stages kept position stage now raw made here c m = record {
  closure = subst (IsClosureOf made.kept.closure) (sym m.colours) m.closure;
  ends = ⊎_elim
      (λ r. end_led raw made.kept.last (drop now.start (take (position + 1) stages)) (entry_made stages position made).chain made.stage m.colours (led_on stages kept position stage now raw made here c m r))
      (λ not. end_led raw made.kept.last [] (entry_made stages position made).chain made.stage m.colours (led_anew stages position stage.colours now raw made here.low m not))
      (refines_or_not raw stage.colours);
}

start-made : (position : ℕ) (before : PairColouring) (now : Kept) (raw : PairColouring) (made : Made) → now.start ≤ position → IsMadeBy before now position raw made → made.kept.start ≤ position + 1
start-made position before now raw made l m = ⊎_elim
    (λ r. omega (arith, l, (m.goes_on r).start))
    (λ not. omega (arith, (m.starts not).start))
    (refines_or_not raw before)

-- one more element after the place
abbrev pub IsPutAfter : {X : Type 0} → ℕ → X → List X → List X → Type 0
IsPutAfter place x xs ys = ys ≡ take (place + 1) xs ++ x ∷ []

put_len : {X : Type 0} (place : ℕ) (x : X) (xs ys : List X) → place < length xs → IsPutAfter place x xs ys → length ys ≡ place + 1 + 1
put_len place x xs ys l p = omega (arith, ap length p, length-append (take (place + 1) xs) (x ∷ []), length-take (place + 1) xs, l)

put_front : {X : Type 0} (place : ℕ) (x : X) (xs ys : List X) → place < length xs → IsPutAfter place x xs ys → take (place + 1) ys ≡ take (place + 1) xs
put_front place x xs ys l p =
    ap (take (place + 1)) p
    ∙ take-append-le (place + 1) (take (place + 1) xs) (x ∷ []) (omega (arith, length-take (place + 1) xs, l))
    ∙ take-take (place + 1) (place + 1) xs (omega arith)

put_other : {X : Type 0} (place : ℕ) (x : X) (xs ys : List X) (i : ℕ) (d : X) → place < length xs → IsPutAfter place x xs ys → i < place + 1 → get_or ys i d ≡ get_or xs i d
put_other place x xs ys i d l p k =
    sym (get_or-take (place + 1) ys i d k) ∙ ap (λ zs. get_or zs i d) (put_front place x xs ys l p) ∙ get_or-take (place + 1) xs i d k

put_last : {X : Type 0} (place : ℕ) (x : X) (xs ys : List X) (d : X) → place < length xs → IsPutAfter place x xs ys → get_or ys (place + 1) d ≡ x
put_last place x xs ys d l p =
    ap (λ zs. get_or zs (place + 1) d) p
    ∙ ap (λ n. get_or (take (place + 1) xs ++ x ∷ []) n d) (let n : place + 1 ≡ length (take (place + 1) xs) = omega (arith, length-take (place + 1) xs, l) in n)
    ∙ get_or-append_seam (take (place + 1) xs) x [] d

-- the entries up to the place are as they were
entry-other : (stages new : List Stage) (kept newer : List Kept) (place : ℕ) (stage : Stage) (now : Kept) (i : ℕ) → place < length stages → place < length kept
    → IsPutAfter place stage stages new → IsPutAfter place now kept newer → i < place + 1 → entry_kept new newer i ≡ entry_kept stages kept i
entry-other stages new kept newer place stage now i l k p q low =
    let a = put_other place stage stages new i no_stage l p low in
    let b = put_other place now kept newer i no_kept k q low in
    let t : take (i + 1) new ≡ take (i + 1) stages =
    sym (take-take (i + 1) (place + 1) new (omega (arith, low))) ∙ ap (take (i + 1)) (put_front place stage stages new l p) ∙ take-take (i + 1) (place + 1) stages (omega (arith, low)) in
    λ j. record { colouring = (a j).colours; chain = drop (b j).start (t j) }

-- and the one after it is that of the stage
entry-last : (stages new : List Stage) (kept newer : List Kept) (place : ℕ) (made : Made) → place < length stages → place < length kept
    → IsPutAfter place made.stage stages new → IsPutAfter place made.kept kept newer → entry_kept new newer (place + 1) ≡ entry_made stages place made
entry-last stages new kept newer place made l k p q =
    let a = put_last place made.stage stages new no_stage l p in
    let b = put_last place made.kept kept newer no_kept k q in
    let t : take (place + 1 + 1) new ≡ take (place + 1) stages ++ made.stage ∷ [] = take_all (place + 1 + 1) new (omega (arith, put_len place made.stage stages new l p)) ∙ p in
    λ j. record { colouring = (a j).colours; chain = drop (b j).start (t j) }

same_map : {X : Type 0} (f g : ℕ → X) (n : ℕ) → ((i : ℕ) → i < n → f i ≡ g i) → map f (range_with_len 0 n) ≡ map g (range_with_len 0 n)
same_map f g n h =
    same_lists (map f (range_with_len 0 n)) (map g (range_with_len 0 n)) (length-map-range_with_len f 0 n ∙ sym (length-map-range_with_len g 0 n))
    (λ k d l. let low : k < n = omega (arith, l, length-map-range_with_len f 0 n) in
    get_or-map-range_with_len f 0 n k k d low (omega arith) ∙ h k low ∙ sym (get_or-map-range_with_len g 0 n k k d low (omega arith)))

-- the entries that are kept
entries-put : (stages new : List Stage) (kept newer : List Kept) (place : ℕ) (made : Made) → place < length stages → place < length kept
    → IsPutAfter place made.stage stages new → IsPutAfter place made.kept kept newer
    → (history_of new newer (place + 1)).entries ≡ take (place + 1) (history_of stages kept place).entries ++ entry_made stages place made ∷ []
entries-put stages new kept newer place made l k p q =
    ap (λ n. map (entry_kept new newer) (range_with_len 0 n)) (put_len place made.stage stages new l p)
    ∙ map-range_with_len_more (entry_kept new newer) 0 (place + 1) (place + 1) (omega arith)
    ∙ (λ i. same_map (entry_kept new newer) (entry_kept stages kept) (place + 1) (λ j low. entry-other stages new kept newer place made.stage made.kept j l k p q low) i
    ++ entry-last stages new kept newer place made l k p q i ∷ [])
    ∙ ap (λ entries. entries ++ entry_made stages place made ∷ []) (sym (take-map-range_with_len (entry_kept stages kept) 0 (length stages) (place + 1) (omega (arith, l))))

-- what an edit makes of the present entry is accepted
pub EditStep-kept : (stages new : List Stage) (kept newer : List Kept) (position : ℕ) (stage : Stage) (now : Kept) (e : Edit) (raw : PairColouring) (made : Made)
    → IsPresentEntry stages kept position stage now → Makes stage.colours position e raw
    → IsColouring raw → IsMadeBy stage.colours now position raw made → IsPutAfter position made.stage stages new → IsPutAfter position made.kept kept newer
    → EditStep (history_of stages kept position) e (history_of new newer (position + 1))
EditStep-kept stages new kept newer position stage now e raw made here makes c m p q = record {
  raw = raw;
  makes = subst (λ (a : Entry). Makes a.colouring position e raw) (sym here.is) makes;
  entry = entry_made stages position made;
  made = subst (λ (a : Entry). IsEntryAfter a raw (entry_made stages position made)) (sym here.is) (after-made stages kept position stage now raw made here c m);
  entries = entries-put stages new kept newer position made here.low here.low_kept p q;
  position = refl;
}

-- what is refused at the present entry is refused
pub IsRefused-kept : (stages : List Stage) (kept : List Kept) (position : ℕ) (stage : Stage) (now : Kept) (e : Edit) (fault : EditFault) → IsPresentEntry stages kept position stage now
    → IsRefusedAt stage.colours position e fault → IsRefused (history_of stages kept position) (edits e) fault
IsRefused-kept stages kept position stage now e fault here r = subst (λ (a : Entry). IsRefusedAt a.colouring position e fault) (sym here.is) r

-- what holds below a place, and at it, holds up to it
each_more : (P : ℕ → Type 0) (n place : ℕ) → n ≡ place + 1 + 1 → ((i : ℕ) → i < place + 1 → P i) → P (place + 1) → (i : ℕ) → i < n → P i
each_more P n place e below at i l = ⊎_elim (λ s. subst P (sym s) at) (λ ne. below i (omega (arith, ne, l, e))) (cases_eq i (place + 1))

-- and what is kept is the history after it
pub IsKeptHistory-edited : (stages new : List Stage) (kept newer : List Kept) (position : ℕ) (stage : Stage) (now : Kept) (e : Edit) (raw : PairColouring) (made : Made)
    → IsKeptHistory stages kept position → IsPresentEntry stages kept position stage now → EditStep (history_of stages kept position) e (history_of new newer (position + 1))
    → IsColouring raw → IsMadeBy stage.colours now position raw made → IsPutAfter position made.stage stages new → IsPutAfter position made.kept kept newer
    → IsKeptHistory new newer (position + 1)
IsKeptHistory-edited stages new kept newer position stage now e raw made k here step c m p q = record {
  lengths = put_len position made.kept kept newer here.low_kept q ∙ sym len;
  history = IsHistory-edited (history_of stages kept position) e (history_of new newer (position + 1)) k.history step;
  starts =
      each_more (λ place. (get_or newer place no_kept).start ≤ place) (length new) position len
      (λ i l. subst (λ (a : Kept). a.start ≤ i) (sym (put_other position made.kept kept newer i no_kept here.low_kept q l)) (k.starts i (omega (arith, l, here.low))))
      (subst (λ (a : Kept). a.start ≤ position + 1) (sym last) (start-made position stage.colours now raw made here.start m));
  entries =
      each_more (λ place. IsKeptOf (entry_kept new newer place) (get_or newer place no_kept)) (length new) position len
      (λ i l. subst (λ E. IsKeptOf E (get_or newer i no_kept)) (sym (entry-other stages new kept newer position made.stage made.kept i here.low here.low_kept p q l))
      (subst (IsKeptOf (entry_kept stages kept i)) (sym (put_other position made.kept kept newer i no_kept here.low_kept q l)) (k.entries i (omega (arith, l, here.low)))))
      (subst (λ E. IsKeptOf E (get_or newer (position + 1) no_kept)) (sym (entry-last stages new kept newer position made here.low here.low_kept p q))
      (subst (IsKeptOf (entry_made stages position made)) (sym last) (kept-made stages kept position stage now raw made here c m)));
}
  where
    len : length new ≡ position + 1 + 1
    len = put_len position made.stage stages new here.low p

    last : get_or newer (position + 1) no_kept ≡ made.kept
    last = put_last position made.kept kept newer no_kept here.low_kept q

pub none_from_not : {X : Type 0} (o : Option X) → ((x : X) → o ≡ Some x → ⊥) → o ≡ None
none_from_not None h = refl
none_from_not (Some x) h = absurd (h x refl)

-- the present entry, of which one part is read
pub IsPresentEntry-stage : (stages : List Stage) (kept : List Kept) (position : ℕ) (stage : Stage) → IsKeptHistory stages kept position → stage ≡ get_or stages position stage
    → IsPresentEntry stages kept position stage (get_or kept position no_kept)
IsPresentEntry-stage stages kept position stage k s =
    IsPresentEntry-read stages kept position stage (get_or kept position no_kept) k s
    (get_or_default kept position no_kept (get_or kept position no_kept) (omega (arith, low_from stages kept position k, k.lengths)))

pub IsPresentEntry-kept : (stages : List Stage) (kept : List Kept) (position : ℕ) (now : Kept) → IsKeptHistory stages kept position → now ≡ get_or kept position now
    → IsPresentEntry stages kept position (get_or stages position no_stage) now
IsPresentEntry-kept stages kept position now k n =
    IsPresentEntry-read stages kept position (get_or stages position no_stage) now k
    (get_or_default stages position no_stage (get_or stages position no_stage) (low_from stages kept position k)) n

-- the history may stand at each of its places
pub IsKeptHistory-moved : (stages : List Stage) (kept : List Kept) (position place : ℕ) → IsKeptHistory stages kept position → place < length stages → IsKeptHistory stages kept place
IsKeptHistory-moved stages kept position place k l = record {
  lengths = k.lengths;
  history = record {
    inside = omega (arith, l, length-map-range_with_len (entry_kept stages kept) 0 (length stages));
    few = k.history.few;
    within = k.history.within;
    chains = k.history.chains;
  };
  starts = k.starts;
  entries = k.entries;
}

-- the start of a history
pub Starts-kept : (C : PairColouring) (made : Made) → IsRawColouring C → made.stage.colours ≡ C → IsMadeFrom (stage_start None C) 0 made → Starts C (history_of (made.stage ∷ []) (made.kept ∷ []) 0)
Starts-kept C made c same m = record {
  entry = entry_by (made.stage ∷ []) made.stage made.kept;
  first = record { colouring = same; chain = chain_led C made.kept.last [] (drop made.kept.start (made.stage ∷ [])) made.stage c.fits.colouring same (led_first C made m) };
  entries = refl;
  position = refl;
}
  where
    led_first : (D : PairColouring) (new : Made) → IsMadeFrom (stage_start None D) 0 new → IsLed D new.kept.last [] (drop new.kept.start (new.stage ∷ [])) new.stage
    led_first D new n = record { may = MayGoOn-none D; leads = n.leads; one_class = n.one_class; coherent = n.coherent; is = ap (λ start. drop start (new.stage ∷ [])) n.start }

pub IsKeptHistory-first : (C : PairColouring) (made : Made) → IsRawColouring C → made.stage.colours ≡ C → IsClosureOf made.kept.closure C → IsMadeFrom (stage_start None C) 0 made
    → IsKeptHistory (made.stage ∷ []) (made.kept ∷ []) 0
IsKeptHistory-first C made c same k m = record {
  lengths = refl;
  history = start_is_history C (history_of (made.stage ∷ []) (made.kept ∷ []) 0) c (Starts-kept C made c same m);
  starts = λ place l. ⊎_elim (λ z. subst (λ q. (get_or (made.kept ∷ []) q no_kept).start ≤ q) (sym z) (omega (arith, m.start))) (λ ne. absurd (omega (arith, ne, l))) (cases_eq place 0);
  entries = λ place l.
      ⊎_elim (λ z. subst (λ q. IsKeptOf (entry_kept (made.stage ∷ []) (made.kept ∷ []) q) (get_or (made.kept ∷ []) q no_kept)) (sym z) first) (λ ne. absurd (omega (arith, ne, l))) (cases_eq place 0);
}
  where
    first : IsKeptOf (entry_by (made.stage ∷ []) made.stage made.kept) made.kept
    first = record {
      closure = subst (IsClosureOf made.kept.closure) (sym same) k;
      ends = chain_end-made C made.kept.last [] (drop made.kept.start (made.stage ∷ [])) made.stage same m.leads (ap (λ start. drop start (made.stage ∷ [])) m.start)
          ∙ (λ i. Some (record { colours = sym same i; partition = made.kept.last }));
    }

-- a move on
pub RedoStep-kept : (stages : List Stage) (kept : List Kept) (position : ℕ) → position + 1 < length stages → RedoStep (history_of stages kept position) (history_of stages kept (position + 1))
RedoStep-kept stages kept position l = record {
  allowed = omega (arith, l, length-map-range_with_len (entry_kept stages kept) 0 (length stages));
  entries = refl;
  position = refl;
}
