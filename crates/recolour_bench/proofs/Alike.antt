-- Alike histories refuse alike and accept alike, and no move is both accepted and refused.
use Rattle.std.proofs.Common.{ℕ, ◌≡◌, ⊎_elim, ◌+◌, ◌++◌, List, [], ◌∷◌, length, get_or, map, take, Some, None, refl, sym, ap, subst, ◌∙◌, arith}
use Rattle.std.proofs.lemmas.List.{length-map, get_or-map, map-append, take-map}
use Rattle.pair_colours.specs.Colouring.{PairColouring, Refines}
use Rattle.pair_colours.specs.Closure.{IsClosureOf}
use Rattle.trace_text.specs.declared.stage_list.Stage.{Stage}
use Rattle.trace_text.proofs.Decided.{refines_or_not}
use Rattle.recolour_bench.specs.Edits.{Edit, factor_of}
use Rattle.recolour_bench.specs.EntryChains.{IsChainOf}
use Rattle.recolour_bench.specs.History.{Entry, History, IsHistory, IsEntryAfter, AreAlike, no_entry, entry_at, present, colourings_of, stage_colours}
use Rattle.recolour_bench.specs.Steps.{Move, edits, undoes, redoes, edit_refusal, Makes, IsRefusedAt, EditStep, Accepts}
use Rattle.recolour_bench.specs.Law.{StartIsUnique, StepIsUnique, NotBoth, RefusalIsUnique, RefusalIsAlike, PresentIsUnique, ChainIsUnique}
use Rattle.recolour_bench.proofs.OwnClosures.{closure_is_one}
use Rattle.recolour_bench.proofs.RawEdits.{made_is_unique}

-- the colours of the stages of an entry
abbrev colours_of : Entry → List PairColouring
colours_of entry = stage_colours entry.chain

AreAlike-sym : (h k : History) → AreAlike h k → AreAlike k h
AreAlike-sym h k alike = record { position = sym alike.position; colourings = sym alike.colourings; chains = sym alike.chains }

-- alike histories are of one length
alike-length : (h k : History) → AreAlike h k → length h.entries ≡ length k.entries
alike-length h k alike = sym (length-map h.entries (λ entry. entry.colouring)) ∙ ap length alike.colourings ∙ length-map k.entries (λ entry. entry.colouring)

-- the stages of two chains after alike ones have the same colours
colours_after : (C D : PairColouring) (before other chain more : List Stage) → C ≡ D → stage_colours before ≡ stage_colours other → IsChainOf C before chain → IsChainOf D other more
    → stage_colours chain ≡ stage_colours more
colours_after C D before other chain more e same c d =
    ap stage_colours c.stages ∙ map-append (λ (stage : Stage). stage.colours) before (c.stage ∷ [])
    ∙ (λ i. same i ++ (c.colours ∙ e ∙ sym d.colours) i ∷ [])
    ∙ sym (ap stage_colours d.stages ∙ map-append (λ (stage : Stage). stage.colours) other (d.stage ∷ []))

pub start_is_unique : StartIsUnique
start_is_unique C h k s t = record {
  position = s.position ∙ sym t.position;
  colourings = ap (map (λ entry. entry.colouring)) s.entries ∙ ap (λ D. D ∷ []) (s.first.colouring ∙ sym t.first.colouring) ∙ sym (ap (map (λ entry. entry.colouring)) t.entries);
  chains =
      ap (map colours_of) s.entries
      ∙ ap (λ colours. colours ∷ []) (colours_after C C [] [] s.entry.chain t.entry.chain refl refl s.first.chain t.first.chain)
      ∙ sym (ap (map colours_of) t.entries);
}

pub present_is_unique : PresentIsUnique
present_is_unique h k is alike =
    sym (get_or-map (λ (entry : Entry). entry.colouring) h.entries h.position no_entry no_entry.colouring is.inside)
    ∙ (λ i. get_or (alike.colourings i) (alike.position i) no_entry.colouring)
    ∙ get_or-map (λ (entry : Entry). entry.colouring) k.entries k.position no_entry no_entry.colouring (omega (arith, is.inside, alike.position, alike-length h k alike))

pub chain_is_unique : ChainIsUnique
chain_is_unique h k is alike =
    sym (get_or-map colours_of h.entries h.position no_entry [] is.inside)
    ∙ (λ i. get_or (alike.chains i) (alike.position i) [])
    ∙ get_or-map colours_of k.entries k.position no_entry [] (omega (arith, is.inside, alike.position, alike-length h k alike))

-- entries after alike ones have stages of the same colours
after_alike : (before other entry more : Entry) (C D : PairColouring) → C ≡ D → before.colouring ≡ other.colouring → colours_of before ≡ colours_of other
    → IsEntryAfter before C entry → IsEntryAfter other D more → colours_of entry ≡ colours_of more
after_alike before other entry more C D e present chains a b = ⊎_elim
    (λ r. colours_after C D before.chain other.chain entry.chain more.chain e chains (a.goes_on r) (b.goes_on (subst (λ E. Refines E other.colouring) e (subst (Refines C) present r))))
    (λ not. colours_after C D [] [] entry.chain more.chain e refl (a.starts not)
    (b.starts (λ r. not (subst (Refines C) (sym present) (subst (λ E. Refines E other.colouring) (sym e) r)))))
    (refines_or_not C before.colouring)

pub refusal_is_alike : RefusalIsAlike
refusal_is_alike h k (edits e) fault is alike r =
    subst (λ C. IsRefusedAt C k.position e fault) (present_is_unique h k is alike) (subst (λ position. IsRefusedAt (present h) position e fault) alike.position r)
refusal_is_alike h k undoes fault is alike r = (r.0, sym alike.position ∙ r.1)
refusal_is_alike h k redoes fault is alike r = (r.0, ap (λ p. p + 1) (sym alike.position) ∙ r.1 ∙ alike-length h k alike)

-- a colouring and the second factor have one closure each, so the first refusal is one
refusal_is_one : (C K L M N : PairColouring) (position : ℕ) (e : Edit) → IsClosureOf K C → IsClosureOf M C → IsClosureOf L (factor_of C e) → IsClosureOf N (factor_of C e)
    → edit_refusal C K L position e ≡ edit_refusal C M N position e
refusal_is_one C K L M N position e k m l n =
    let own : K ≡ M = closure_is_one C K M k m in
    let other : L ≡ N = closure_is_one (factor_of C e) L N l n in
    λ i. edit_refusal C (own i) (other i) position e

pub refusal_is_unique : RefusalIsUnique
refusal_is_unique h (edits e) f g is r s =
    let same = refusal_is_one (present h) r.closure r.factor s.closure s.factor h.position e r.is_closure s.is_closure r.is_factor s.is_factor in
    let faults : Some f ≡ Some g = sym r.refusal ∙ same ∙ s.refusal in
    cc
refusal_is_unique h undoes f g is r s = r.0 ∙ sym s.0
refusal_is_unique h redoes f g is r s = r.0 ∙ sym s.0

pub not_both : NotBoth
not_both h (edits e) h2 fault is a r =
    let m = a.makes in
    let same = refusal_is_one (present h) m.closure m.factor r.closure r.factor h.position e m.is_closure r.is_closure m.is_factor r.is_factor in
    let z : None ≡ Some fault = sym m.allowed ∙ same ∙ r.refusal in
    cc
not_both h undoes h2 fault is a r = omega (arith, a.allowed, r.1)
not_both h redoes h2 fault is a r = omega (arith, a.allowed, r.1)

-- the colourings after an edit
colourings-edited : (h : History) (e : Edit) (h2 : History) → (s : EditStep h e h2) → colourings_of h2 ≡ take (h.position + 1) (colourings_of h) ++ s.raw ∷ []
colourings-edited h e h2 s =
    ap (map (λ entry. entry.colouring)) s.entries ∙ map-append (λ (entry : Entry). entry.colouring) (take (h.position + 1) h.entries) (s.entry ∷ [])
    ∙ (λ i. sym (take-map (λ (entry : Entry). entry.colouring) (h.position + 1) h.entries) i ++ s.made.colouring i ∷ [])

-- the colours of the stages after an edit
colours-edited : (h : History) (e : Edit) (h2 : History) → (s : EditStep h e h2)
    → map colours_of h2.entries ≡ take (h.position + 1) (map colours_of h.entries) ++ colours_of s.entry ∷ []
colours-edited h e h2 s =
    ap (map colours_of) s.entries ∙ map-append colours_of (take (h.position + 1) h.entries) (s.entry ∷ [])
    ∙ ap (λ lists. lists ++ colours_of s.entry ∷ []) (sym (take-map colours_of (h.position + 1) h.entries))

-- what a move makes of alike histories is alike
accepts_alike : (h k : History) (move : Move) (h2 k2 : History) → IsHistory h → AreAlike h k → Accepts h move h2 → Accepts k move k2 → AreAlike h2 k2
accepts_alike h k (edits e) h2 k2 is alike a b =
    let same : present h ≡ present k = present_is_unique h k is alike in
    let makes : Makes (present k) k.position e a.raw = subst (λ C. Makes C k.position e a.raw) same (subst (λ position. Makes (present h) position e a.raw) alike.position a.makes) in
    let raw : a.raw ≡ b.raw = made_is_unique (present k) k.position e a.raw b.raw makes b.makes in
    record {
      position = a.position ∙ ap (λ p. p + 1) alike.position ∙ sym b.position;
      colourings =
          colourings-edited h e h2 a
          ∙ (λ i. take (alike.position i + 1) (alike.colourings i) ++ raw i ∷ [])
          ∙ sym (colourings-edited k e k2 b);
      chains =
          colours-edited h e h2 a
          ∙ (λ i. take (alike.position i + 1) (alike.chains i)
          ++ after_alike (entry_at h) (entry_at k) a.entry b.entry a.raw b.raw raw same (chain_is_unique h k is alike) a.made b.made i ∷ [])
          ∙ sym (colours-edited k e k2 b);
    }
accepts_alike h k undoes h2 k2 is alike a b = record {
  position = omega (arith, a.position, b.position, alike.position);
  colourings = ap (map (λ entry. entry.colouring)) a.entries ∙ alike.colourings ∙ sym (ap (map (λ entry. entry.colouring)) b.entries);
  chains = ap (map colours_of) a.entries ∙ alike.chains ∙ sym (ap (map colours_of) b.entries);
}
accepts_alike h k redoes h2 k2 is alike a b = record {
  position = omega (arith, a.position, b.position, alike.position);
  colourings = ap (map (λ entry. entry.colouring)) a.entries ∙ alike.colourings ∙ sym (ap (map (λ entry. entry.colouring)) b.entries);
  chains = ap (map colours_of) a.entries ∙ alike.chains ∙ sym (ap (map colours_of) b.entries);
}

pub step_is_unique : StepIsUnique
step_is_unique h k move h2 k2 hs ks alike s t =
    ⊎_elim
    (λ a. ⊎_elim (λ b. accepts_alike h k move h2 k2 hs alike a b) (λ r. absurd (not_both h move h2 r.fault hs a (refusal_is_alike k h move r.fault ks (AreAlike-sym h k alike) r.refused))) t)
    (λ q. ⊎_elim (λ b. absurd (not_both k move k2 q.fault ks b (refusal_is_alike h k move q.fault hs alike q.refused)))
    (λ r. subst (λ g. AreAlike g k2) (sym q.same) (subst (AreAlike h) (sym r.same) alike)) t)
    s
