-- Each move leads from each history to a history.
use Rattle.std.proofs.Common.{ℕ, ◌≡◌, ◌==◌, inl, inr, ⊎_elim, ◌+◌, ◌-◌, ◌≤◌, ◌++◌, [], ◌∷◌, length, take, All, Option, Some, None, refl, sym, ap, subst, ◌∙◌, arith}
use Rattle.std.proofs.lemmas.Bool.{cases_eq, eqb-false}
use Rattle.std.proofs.lemmas.List.{length-append, length-take}
use Rattle.std.proofs.lemmas.List.Elements.{All-cons, All-nil, All-push, All-take}
use Rattle.pair_colours.specs.Colouring.{PairColouring, IsRawColouring}
use Rattle.pair_colours.specs.Closure.{IsClosureOf}
use Rattle.pair_colours.proofs.LawProofs.{named_closure_exists}
use Rattle.recolour_bench.specs.declared.edits.EditFault.{EditFault}
use Rattle.recolour_bench.specs.declared.edits.EditFault.TheVariants.{HistoryFull, NothingToUndo, NothingToRedo}
use Rattle.recolour_bench.specs.declared.history.TheConstants.{MOST_POSITION}
use Rattle.recolour_bench.specs.Edits.{Edit, factor_of}
use Rattle.recolour_bench.specs.History.{History, IsHistory, IsFirstEntry, AreEntries, no_entry, entry_at, present}
use Rattle.recolour_bench.specs.Steps.{Move, edits, undoes, redoes, edit_tests, edit_refusal, Makes, IsRefusedAt, EditStep, UndoStep, RedoStep, Accepts, Step}
use Rattle.recolour_bench.specs.Law.{StartExists, StartIsHistory, StepExists, StepKeeps, PresentIsRaw}
use Rattle.recolour_bench.proofs.Chains.{IsRawEntry, sound_at, first_exists, after_exists, AreEntries-push}
use Rattle.recolour_bench.proofs.RawEdits.{first_that_holds-none, first_that_holds-append, IsRawColouring-made, edited_exists, factor_is_colouring}

pub start_exists : StartExists
start_exists C c =
    let first = first_exists C c.fits.colouring in
    (record { entries = first.0 ∷ []; position = 0 }, record { entry = first.0; first = first.1; entries = refl; position = refl })

pub start_is_history : StartIsHistory
start_is_history C h c s = record {
  inside = omega (arith, s.position, ap length s.entries);
  few = omega (arith, ap length s.entries);
  within = subst (All IsRawEntry) (sym s.entries) (All-cons IsRawEntry s.entry [] (subst IsRawColouring (sym s.first.colouring) c) (All-nil IsRawEntry));
  chains = subst AreEntries (sym s.entries) (subst (λ D. IsFirstEntry D s.entry) (sym s.first.colouring) s.first, tt);
}

pub present_is_raw : PresentIsRaw
present_is_raw h is = is.within h.position no_entry is.inside

-- an edit that is allowed finds a further position
further : (C K L : PairColouring) (position : ℕ) (e : Edit) → edit_refusal C K L position e ≡ None → position ≡ MOST_POSITION → ⊥
further C K L position e allowed =
    let parts = first_that_holds-append (edit_tests C K L e) ((position == MOST_POSITION, HistoryFull) ∷ []) allowed in
    eqb-false position MOST_POSITION (first_that_holds-none (position == MOST_POSITION) HistoryFull [] parts.1).0

-- an accepted edit leaves a history
pub IsHistory-edited : (h : History) (e : Edit) (h2 : History) → IsHistory h → EditStep h e h2 → IsHistory h2
IsHistory-edited h e h2 is s = record {
  inside = omega (arith, s.position, len);
  few = omega (arith, len, room);
  within =
      subst (All IsRawEntry) (sym s.entries)
      (All-push IsRawEntry (take (h.position + 1) h.entries) s.entry (All-take IsRawEntry (h.position + 1) h.entries is.within)
      (subst IsRawColouring (sym s.made.colouring) (IsRawColouring-made (present h) h.position e s.raw (present_is_raw h is) s.makes)));
  chains = subst AreEntries (sym s.entries) (AreEntries-push h.entries h.position s.raw s.entry is.chains is.inside s.made);
}
  where
    len : length h2.entries ≡ h.position + 2
    len =
        ap length s.entries ∙ length-append (take (h.position + 1) h.entries) (s.entry ∷ [])
        ∙ (let l : length (take (h.position + 1) h.entries) ≡ h.position + 1 = omega (arith, length-take (h.position + 1) h.entries, is.inside) in omega (arith, l))

    room : h.position + 2 ≤ MOST_POSITION + 1
    room = ⊎_elim (λ last. absurd (further (present h) s.makes.closure s.makes.factor h.position e s.makes.allowed last)) (λ ne. omega (arith, ne, is.inside, is.few)) (cases_eq h.position MOST_POSITION)

-- so does each accepted move
accepts_history : (h : History) (move : Move) (h2 : History) → IsHistory h → Accepts h move h2 → IsHistory h2
accepts_history h (edits e) h2 is a = IsHistory-edited h e h2 is a
accepts_history h undoes h2 is a = record {
  inside = omega (arith, a.position, is.inside, ap length a.entries);
  few = omega (arith, is.few, ap length a.entries);
  within = subst (All IsRawEntry) (sym a.entries) is.within;
  chains = subst AreEntries (sym a.entries) is.chains;
}
accepts_history h redoes h2 is a = record {
  inside = omega (arith, a.position, a.allowed, ap length a.entries);
  few = omega (arith, is.few, ap length a.entries);
  within = subst (All IsRawEntry) (sym a.entries) is.within;
  chains = subst AreEntries (sym a.entries) is.chains;
}

pub step_keeps : StepKeeps
step_keeps h move h2 is s = ⊎_elim (λ a. accepts_history h move h2 is a) (λ r. subst IsHistory (sym r.same) is) s

-- a step exists, since the present colouring and the second factor have closures, and what an edit makes has a chain
edit_exists : (h : History) (e : Edit) (K L : PairColouring) (o : Option EditFault) → IsHistory h → IsClosureOf K (present h) → IsClosureOf L (factor_of (present h) e)
    → edit_refusal (present h) K L h.position e ≡ o → (h2 : History) × Step h (edits e) h2
edit_exists h e K L (Some fault) is k l r =
    let refused : IsRefusedAt (present h) h.position e fault = record { closure = K; is_closure = k; factor = L; is_factor = l; refusal = r } in
    (h, inr (record { fault = fault; refused = refused; same = refl }))
edit_exists h e K L None is k l r =
    let edited = edited_exists (present h) K L e k.closure.colouring l.closure.colouring in
    let makes : Makes (present h) h.position e edited.0 = record { closure = K; is_closure = k; factor = L; is_factor = l; allowed = r; edited = edited.1 } in
    let raw = IsRawColouring-made (present h) h.position e edited.0 (present_is_raw h is) makes in
    let made = after_exists (h.position + 1) (entry_at h) edited.0 (sound_at h.entries h.position is.chains is.within is.inside) raw.fits.colouring in
    let next : History = record { entries = take (h.position + 1) h.entries ++ made.0 ∷ []; position = h.position + 1 } in
    let step : EditStep h e next = record { raw = edited.0; makes = makes; entry = made.0; made = made.1; entries = refl; position = refl } in
    (next, inl step)

pub step_exists : StepExists
step_exists h (edits e) w is =
    let c = (present_is_raw h is).fits.colouring in
    let k = named_closure_exists (present h) c in
    let l = named_closure_exists (factor_of (present h) e) (factor_is_colouring (present h) e c w) in
    edit_exists h e k.0 l.0 (edit_refusal (present h) k.0 l.0 h.position e) is k.1 l.1 refl
step_exists h undoes w is =
    ⊎_elim
    (λ first. (h, inr (record { fault = NothingToUndo; refused = (refl, first); same = refl })))
    (λ ne. let next : History = record { entries = h.entries; position = h.position - 1 } in
    let step : UndoStep h next = record { allowed = omega (arith, ne); entries = refl; position = omega (arith, ne) } in
    (next, inl step))
    (cases_eq h.position 0)
step_exists h redoes w is =
    ⊎_elim
    (λ last. (h, inr (record { fault = NothingToRedo; refused = (refl, last); same = refl })))
    (λ ne. let next : History = record { entries = h.entries; position = h.position + 1 } in
    let step : RedoStep h next = record { allowed = omega (arith, ne, is.inside); entries = refl; position = refl } in
    (next, inl step))
    (cases_eq (h.position + 1) (length h.entries))
