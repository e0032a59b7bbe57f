-- The chains of a history show the closures, and so do the rounds over them.
use Rattle.std.proofs.Common.{◌≡◌, ℕ, suc, ◌+◌, ◌<◌, ◌≤◌, List, [], ◌∷◌, length, get_or, All, Option, Some, None, refl, sym, ap, subst, arith}
use Rattle.std.specs.List.{AllByRecursion}
use Rattle.std.proofs.lemmas.List.Elements.{All-from_get_or, All-from_recursion, recursion_from_All}
use Rattle.pair_colours.specs.Colouring.{IsRawColouring}
use Rattle.trace_text.specs.declared.stage_list.Stage.{Stage}
use Rattle.trace_text.specs.Chains.{StageEnd, stage_end}
use Rattle.trace_text.specs.RoundChains.{AreRoundStages}
use Rattle.trace_text.proofs.LawProofs as traces
use Rattle.recolour_bench.specs.declared.history.TheConstants.{MOST_POSITION}
use Rattle.recolour_bench.specs.EntryChains.{claim_by, round_claim_by}
use Rattle.recolour_bench.specs.History.{Entry, History, IsHistory, no_entry, present_chain}
use Rattle.recolour_bench.specs.Law.{IsShown, FitsText, IsShownByRounds, IsFollowing, ChainsAreAccepted, ChainsAreShort, ChainsAreRaw, ChainTextsFit, RoundChainsAreAccepted, ChainsFollow, RoundChainIsUnique}
use Rattle.recolour_bench.proofs.Alike.{chain_is_unique}
use Rattle.recolour_bench.proofs.Chains.{IsRawStage, IsSound, IsVersioned-sound, colourings-sound, following-sound, sound_at}

-- each entry is sound
sound : (h : History) → IsHistory h → (i : ℕ) → i < length h.entries → IsSound (i + 1) (get_or h.entries i no_entry)
sound h is i l = sound_at h.entries i is.chains is.within l

-- its chain has no more stages than there are positions
short : (h : History) → IsHistory h → (i : ℕ) → i < length h.entries → length (get_or h.entries i no_entry).chain ≤ MOST_POSITION + 1
short h is i l = omega (arith, (sound h is i l).few, l, is.few)

pub chains_are_accepted : ChainsAreAccepted
chains_are_accepted h is = All-from_get_or IsShown h.entries no_entry
    (λ i l K k. ((sound h is i l).chain.accepted K k, IsVersioned-sound (i + 1) (get_or h.entries i no_entry) K (sound h is i l)))

pub chains_are_short : ChainsAreShort
chains_are_short h is = All-from_get_or (λ (entry : Entry). length entry.chain ≤ MOST_POSITION + 1) h.entries no_entry (short h is)

pub chains_are_raw : ChainsAreRaw
chains_are_raw h is = All-from_get_or (λ (entry : Entry). All IsRawStage entry.chain) h.entries no_entry (λ i l. (sound h is i l).colours)

pub chain_texts_fit : ChainTextsFit
chain_texts_fit h is = All-from_get_or FitsText h.entries no_entry
    (λ i l K k. traces.accepted_text_fits (claim_by (get_or h.entries i no_entry).chain K) (IsVersioned-sound (i + 1) (get_or h.entries i no_entry) K (sound h is i l))
    ((sound h is i l).chain.accepted K k) (short h is i l) (sound h is i l).colours)

pub chains_follow : ChainsFollow
chains_follow h is = All-from_get_or IsFollowing h.entries no_entry
    (λ i l. (following-sound (i + 1) (get_or h.entries i no_entry) (sound h is i l), colourings-sound (i + 1) (get_or h.entries i no_entry) (sound h is i l)))

-- rounds over stages are as many, of the same colours
round_stages_length : (before : Option StageEnd) (chain rounds : List Stage) → AreRoundStages before chain rounds → length rounds ≡ length chain
round_stages_length before [] [] a = refl
round_stages_length before [] (round ∷ rounds) a = absurd a
round_stages_length before (stage ∷ rest) [] a = absurd a
round_stages_length before (stage ∷ rest) (round ∷ rounds) a = ap suc (round_stages_length (Some (stage_end before round)) rest rounds a.2)

round_stages_raw : (before : Option StageEnd) (chain rounds : List Stage) → AreRoundStages before chain rounds → AllByRecursion IsRawStage chain → AllByRecursion IsRawStage rounds
round_stages_raw before [] [] a raw = tt
round_stages_raw before [] (round ∷ rounds) a raw = absurd a
round_stages_raw before (stage ∷ rest) [] a raw = absurd a
round_stages_raw before (stage ∷ rest) (round ∷ rounds) a raw =
    (subst IsRawColouring (sym a.0) raw.0, round_stages_raw (Some (stage_end before round)) rest rounds a.2 raw.1)

-- so they show the closure of a sound entry
shown_by_rounds : (n : ℕ) (entry : Entry) → IsSound n entry → length entry.chain ≤ MOST_POSITION + 1 → IsShownByRounds entry
shown_by_rounds n entry s few K rounds k r =
    let accepted = traces.round_claim_is_accepted (claim_by entry.chain K) rounds (colourings-sound n entry s) (s.chain.accepted K k) r in
    let raw = All-from_recursion IsRawStage rounds (round_stages_raw None entry.chain rounds r (recursion_from_All IsRawStage entry.chain s.colours)) in
    (accepted.0, accepted.1, traces.accepted_text_fits (round_claim_by rounds K) accepted.1 accepted.0 (omega (arith, few, round_stages_length None entry.chain rounds r)) raw)

pub round_chains_are_accepted : RoundChainsAreAccepted
round_chains_are_accepted h is = All-from_get_or IsShownByRounds h.entries no_entry
    (λ i l. shown_by_rounds (i + 1) (get_or h.entries i no_entry) (sound h is i l) (short h is i l))

pub round_chain_is_unique : RoundChainIsUnique
round_chain_is_unique h k rounds other is alike r o =
    traces.round_chain_is_unique (present_chain k) rounds other
    (traces.round_chain_is_of_colours (present_chain h) (present_chain k) rounds (chain_is_unique h k is alike) r) o
