-- What `lattice` answers: there is one answer, and what a visitor met tells it.
use Rattle.std.proofs.Common.{◌≡◌, ℕ, ◌+◌, ◌<◌, ◌≤◌, Bool, true, false, List, length, take, inr, ⊎_elim, refl, sym, ap, subst, ◌∙◌, arith}
use Rattle.std.specs.Prelude.{codes}
use Rattle.std.proofs.lemmas.Bool.{cases_lt}
use Rattle.std.proofs.lemmas.List.{take_all, length-take-le}
use Rattle.pair_colours.specs.Colouring.{PairColouring}
use Rattle.pair_colours.specs.Naming.{rank_of}
use Rattle.pair_colours.proofs.ThoseLemmas.{those_unique}
use Rattle.struct_consts.specs.ClassData.{IsConfiguration}
use Rattle.visitors.specs.Lists.{IsCut}
use Rattle.visitors.specs.declared.visitor.TheConstants.{MOST_SET_RANK}
use Rattle.colour_wl.specs.GrowthStrings.{growth_strings}
use Rattle.colour_wl.specs.Fusions.{Fuses, IsFusions}
use Rattle.colour_wl.proofs.Existing.{fusions_exist}
use Rattle.fusion_lattice.specs.Common.{IsCommon, CommonOf}
use Rattle.fusion_lattice.specs.declared.covering.TheConstants.{MOST_FUSIONS}
use Rattle.fusion_lattice.proofs.LawProofs.{two_have_one_common, one_list_of_covers}
use Rattle.report_text.specs.Refusals.{RefusedUnless}
use Rattle.neighbour_answers.specs.LatticeAnswer.{OverFusions, ShowsLattice, ShowsCommon, AreListed, lattice_text_of, common_text_of}
use Rattle.neighbour_answers.specs.LatticeLaws.{LatticeAnswersAreUnique, CommonAnswersAreUnique}
use Rattle.neighbour_answers.proofs.Refused.{some_answer, one_answer, few_or_not, both_or_not}

-- there is one list of fusions
same_fusions : (K : PairColouring) (xs ys : List (List ℕ)) → IsFusions K xs → IsFusions K ys → xs ≡ ys
same_fusions K xs ys a b = those_unique (Fuses K) (growth_strings (rank_of K)) xs ys a b

-- what is said of few fusions is said of one list
over_exists : (K : PairColouring) (says : List ℕ → List (List ℕ) → Type 0) → ((fusions : List (List ℕ)) → IsFusions K fusions → (t : List ℕ) × says t fusions) → (t : List ℕ) × OverFusions K t (says t)
over_exists K says make =
    let f = fusions_exist K in
    let a = some_answer (length f.0 ≤ MOST_FUSIONS) (codes "TooManyFusions") (λ t. says t f.0) (few_or_not (length f.0) MOST_FUSIONS) (λ _. make f.0 f.1) in
    (a.0, (f.0, f.1, a.1))

over_one : (K : PairColouring) (t u : List ℕ) (S T : List (List ℕ) → Type 0) → ((fusions : List (List ℕ)) → IsFusions K fusions → S fusions → T fusions → t ≡ u) → OverFusions K t S → OverFusions K u T → t ≡ u
over_one K t u S T one a b =
    one_answer (length a.0 ≤ MOST_FUSIONS) (codes "TooManyFusions") t u (S a.0) (T a.0) (λ _ x y. one a.0 a.1 x y) a.2
    (subst (λ s. RefusedUnless (length s ≤ MOST_FUSIONS) (codes "TooManyFusions") u (T s)) (same_fusions K b.0 a.0 b.1 a.1) b.2)

-- ---- the covers

pub lattice_answers_are_unique : LatticeAnswersAreUnique
lattice_answers_are_unique = record {
  exists = λ K.
      some_answer (rank_of K ≤ MOST_SET_RANK) (codes "RankAbove") (λ t. OverFusions K t (ShowsLattice K t)) (few_or_not (rank_of K) MOST_SET_RANK)
      (λ _. over_exists K (ShowsLattice K) (λ fusions f. let c = one_list_of_covers.exists K in (lattice_text_of fusions c.0, (c.0, c.1, refl))));
  unique = λ K t u.
      one_answer (rank_of K ≤ MOST_SET_RANK) (codes "RankAbove") t u (OverFusions K t (ShowsLattice K t)) (OverFusions K u (ShowsLattice K u))
      (λ _. over_one K t u (ShowsLattice K t) (ShowsLattice K u) (λ fusions f x y. x.2 ∙ ap (lattice_text_of fusions) (one_list_of_covers.unique K x.0 y.0 x.1 y.1) ∙ sym y.2));
}

-- ---- the common fusion of two

module _ (K : PairColouring) (h : IsConfiguration K) (i j : ℕ) (fusions : List (List ℕ)) (f : IsFusions K fusions) where
  common_shown : (t : List ℕ) × ShowsCommon K i j t fusions
  common_shown =
      some_answer ((i < length fusions) × (j < length fusions)) (codes "PlaceRange") (λ t. (p : ℕ) × CommonOf K i j p × (t ≡ common_text_of i j p)) (both_or_not i j (length fusions))
      (λ b. let o = two_have_one_common K h fusions f i j b.0 b.1 in (common_text_of i j o.place, (o.place, record { fusions = fusions; listed = f; is = o.common }, refl)))

  common_here : (p : ℕ) → CommonOf K i j p → IsCommon fusions i j p
  common_here p c = subst (λ s. IsCommon s i j p) (same_fusions K c.fusions fusions c.listed f) c.is

  one_common : (t u : List ℕ) → ShowsCommon K i j t fusions → ShowsCommon K i j u fusions → t ≡ u
  one_common t u =
      one_answer ((i < length fusions) × (j < length fusions)) (codes "PlaceRange") t u _ _
      (λ b x y.
      let o = two_have_one_common K h fusions f i j b.0 b.1 in
      x.2 ∙ ap (common_text_of i j) (o.only x.0 (common_here x.0 x.1) ∙ sym (o.only y.0 (common_here y.0 y.1))) ∙ sym y.2)

pub common_answers_are_unique : CommonAnswersAreUnique
common_answers_are_unique = record {
  exists = λ K h i j.
      some_answer (rank_of K ≤ MOST_SET_RANK) (codes "RankAbove") (λ t. OverFusions K t (ShowsCommon K i j t)) (few_or_not (rank_of K) MOST_SET_RANK)
      (λ _. over_exists K (ShowsCommon K i j) (common_shown K h i j));
  unique = λ K h i j t u.
      one_answer (rank_of K ≤ MOST_SET_RANK) (codes "RankAbove") t u (OverFusions K t (ShowsCommon K i j t)) (OverFusions K u (ShowsCommon K i j u))
      (λ _. over_one K t u (ShowsCommon K i j t) (ShowsCommon K i j u) (λ fusions f. one_common K h i j fusions f t u));
}

-- ---- what was met in room for one more

cut_of_few : (whole met : List (List ℕ)) → met ≡ take (MOST_FUSIONS + 1) whole → length met ≤ MOST_FUSIONS → met ≡ whole
cut_of_few whole met cut few =
    ⊎_elim
    (λ (short : length whole < MOST_FUSIONS + 1). cut ∙ take_all (MOST_FUSIONS + 1) whole (omega (arith, short)))
    (λ (long : MOST_FUSIONS + 1 ≤ length whole). absurd (omega (arith, few, ap length cut, length-take-le (MOST_FUSIONS + 1) whole long)))
    (cases_lt (length whole) (MOST_FUSIONS + 1))

cut_of_many : (whole met : List (List ℕ)) → met ≡ take (MOST_FUSIONS + 1) whole → MOST_FUSIONS < length met → MOST_FUSIONS < length whole
cut_of_many whole met cut many =
    ⊎_elim
    (λ (short : length whole < MOST_FUSIONS + 1). omega (arith, many, ap length (cut ∙ take_all (MOST_FUSIONS + 1) whole (omega (arith, short)))))
    (λ (long : MOST_FUSIONS + 1 ≤ length whole). omega (arith, long))
    (cases_lt (length whole) (MOST_FUSIONS + 1))

-- all fusions were met, or there are more than may be
pub are_listed : (K : PairColouring) (room : ℕ) (few : Bool) (met : List (List ℕ)) → room ≡ MOST_FUSIONS + 1 → IsCut (IsFusions K) room met
    → (few ≡ true → length met ≤ MOST_FUSIONS) → (few ≡ false → MOST_FUSIONS < length met) → AreListed K few met
are_listed K room true met r c small large =
    let f = fusions_exist K in
    let cut : met ≡ take (MOST_FUSIONS + 1) f.0 = c.cut f.0 f.1 ∙ ap (λ n. take n f.0) r in
    (subst (IsFusions K) (sym (cut_of_few f.0 met cut (small refl))) f.1, small refl)
are_listed K room false met r c small large =
    let f = fusions_exist K in
    let cut : met ≡ take (MOST_FUSIONS + 1) f.0 = c.cut f.0 f.1 ∙ ap (λ n. take n f.0) r in
    (f.0, f.1, cut_of_many f.0 met cut (large refl))

-- what is said of few fusions, and the refusal of many
pub listed_few : (K : PairColouring) (few : Bool) (met : List (List ℕ)) → few ≡ true → AreListed K few met → IsFusions K met × (length met ≤ MOST_FUSIONS)
listed_few K few met e a = subst (λ b. AreListed K b met) e a

pub over_met : (K : PairColouring) (few : Bool) (met : List (List ℕ)) (t : List ℕ) (says : List (List ℕ) → Type 0) → few ≡ true → AreListed K few met → says met → OverFusions K t says
over_met K few met t says e a s = let b = listed_few K few met e a in (met, b.0, inr (b.1, s))
