-- The proofs of the laws, under the names by which crates above cite them.
use Rattle.std.proofs.Common.{◌≡◌, ◌⊎◌, ℕ, ◌<◌, ◌≤◌, List, [], length, get_or, inl, inr, ⊎_elim, refl, sym, ap, ◌∙◌, arith}
use Rattle.std.specs.Prelude.{codes}
use Rattle.std.proofs.lemmas.Bool.{cases_lt, cases_eq}
use Rattle.std.proofs.lemmas.List.{get_or_default}
use Rattle.pair_colours.specs.declared.coloured_pairs.TheConstants.{MOST_COLOUR}
use Rattle.pair_colours.proofs.Reaching.{all_below}
use Rattle.equitable.specs.Arcs.{IsArcSet, arcs_of}
use Rattle.equitable.specs.CellText.{cell_text}
use Rattle.equitable.proofs.LawProofs.{accepted_exists, arc_set_or_not, arcs_of_sets_are_arcs}
use Rattle.report_text.specs.EditLines.{refused_text_of}
use Rattle.schur_rings.specs.Group.{IsGroup}
use Rattle.schur_rings.proofs.LawProofs.{group_or_not, ring_exists, ring_is_unique}
use Rattle.report_text.specs.Refusals.{RefusedUnless}
use Rattle.neighbour_answers.specs.RingAnswer.{AnswersOverGroup, AreRawColours, ShowsRing, ring_text_of}
use Rattle.neighbour_answers.specs.CellsAnswer.{ShowsCells}
use Rattle.neighbour_answers.specs.Laws.{CellsAnswerExists, RingAnswerExists, RingAnswerIsUnique}
use Rattle.neighbour_answers.proofs.Refused.{one_answer, some_answer}

raw_or_not : (f : List ℕ) → AreRawColours f ⊎ (AreRawColours f → ⊥)
raw_or_not f = ⊎_elim
    (λ h. inl (λ k d l. omega (arith, h k l, get_or_default f k d 0 l)))
    (λ n. inr (λ h. n (λ k l. h k 0 l)))
    (all_below (λ k. get_or f k 0 ≤ MOST_COLOUR) (length f)
    (λ k l. ⊎_elim (λ (m : MOST_COLOUR < get_or f k 0). inr (λ h. omega (arith, h, m))) (λ h. inl h) (cases_lt MOST_COLOUR (get_or f k 0))))

pub ring_answer_exists : RingAnswerExists
ring_answer_exists T f h =
    some_answer (IsGroup T) (codes "NotGroup") (AnswersOverGroup T f) (group_or_not T h)
    (λ g. some_answer (length f ≡ T.size) (codes "ColourCount") (λ t. RefusedUnless (AreRawColours f) (codes "ColourRange") t (ShowsRing T f t)) (cases_eq (length f) T.size)
    (λ e. some_answer (AreRawColours f) (codes "ColourRange") (ShowsRing T f) (raw_or_not f)
    (λ _. let r = ring_exists T f g e in (ring_text_of T.size r.0, (r.0, r.1, refl)))))

pub ring_answer_is_unique : RingAnswerIsUnique
ring_answer_is_unique T f t u =
    one_answer (IsGroup T) (codes "NotGroup") t u (AnswersOverGroup T f t) (AnswersOverGroup T f u)
    (λ g. one_answer (length f ≡ T.size) (codes "ColourCount") t u _ _
    (λ e. one_answer (AreRawColours f) (codes "ColourRange") t u (ShowsRing T f t) (ShowsRing T f u)
    (λ _ r s. r.2 ∙ ap (ring_text_of T.size) (ring_is_unique T f r.0 s.0 g e r.1 s.1) ∙ sym s.2)))

pub cells_answer_exists : CellsAnswerExists
cells_answer_exists C set h =
    some_answer (IsArcSet C set) (codes "BadSet") (ShowsCells C set) (arc_set_or_not C h.colouring set)
    (λ _. let claim = accepted_exists (arcs_of C set) (arcs_of_sets_are_arcs C set h) in
    (cell_text claim.0, record { claim = claim.0; accepts = claim.2; arcs = claim.1; text = refl }))
