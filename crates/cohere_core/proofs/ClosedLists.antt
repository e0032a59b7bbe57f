-- The answer that lists the closed subsets.
use Rattle.std.proofs.Common.{◌≡◌, ◌<◌, ◌≤◌, ◌⊎◌, ℕ, ◌^◌, List, [], ◌∷◌, length, ⊎_elim, refl, sym, ap, subst, ◌∙◌, inl, inr, arith}
use Rattle.std.specs.Prelude.{codes}
use Rattle.std.proofs.lemmas.Bool.{cases_lt}
use Rattle.std.proofs.lemmas.List.{length-map, take_all}
use Rattle.std.proofs.lemmas.List.FromFn.{length-range_with_len}
use Rattle.std.proofs.Math.Nat.{pow-le-pow_right}
use Rattle.pair_colours.specs.Colouring.{PairColouring}
use Rattle.pair_colours.specs.ClosedSet.{IsClosedSet, ClosedSets}
use Rattle.pair_colours.specs.ColourSets.{is_in}
use Rattle.pair_colours.specs.Naming.{rank_of}
use Rattle.pair_colours.specs.Subsets.{bit_number, subsets}
use Rattle.pair_colours.specs.Those.{AreThose}
use Rattle.pair_colours.proofs.LawProofs.{closed_sets_exist, closed_sets_are_unique, subsets_are_all}
use Rattle.visitors.specs.Lists.{IsCut}
use Rattle.visitors.specs.declared.visitor.TheConstants.{MOST_SET_RANK}
use Rattle.report_text.specs.EditLines.{refused_text_of}
use Rattle.report_text.specs.Sets.{sets_text_of}
use Rattle.report_text.specs.declared.sets.SetHead.TheVariants.{Closed}
use Rattle.report_text.specs.Refusals.{RefusedUnless}
use Rattle.cohere_core.specs.ClosedSubsets.{ListsClosed}

-- ---- refusals

-- there is an answer, where it is known whether P holds
pub has_answer_unless : (P : Type 0) (word : List ℕ) (answer : List ℕ → Type 0) → P ⊎ ¬ P → (P → (t : List ℕ) × answer t) → (t : List ℕ) × RefusedUnless P word t (answer t)
has_answer_unless P word answer known has = ⊎_elim (λ p. let t = has p in (t.0, inr (p, t.1))) (λ no. (refused_text_of word, inl (no, refl))) known

-- two answers are equal, where those after P are
pub one_answer_unless : (P : Type 0) (word t u : List ℕ) (A B : Type 0) → (A → B → t ≡ u) → RefusedUnless P word t A → RefusedUnless P word u B → t ≡ u
one_answer_unless P word t u A B one a b =
    ⊎_elim
    (λ x. ⊎_elim (λ y. x.1 ∙ sym y.1) (λ y. absurd (x.0 y.0)) b)
    (λ x. ⊎_elim (λ y. absurd (y.0 x.0)) (λ y. one x.1 y.1) b)
    a

-- an answer has bytes, where those after P have
pub answer_unless_has_bytes : (P : Type 0) (word t : List ℕ) (A : Type 0) → (A → 0 < length t) → RefusedUnless P word t A → 0 < length t
answer_unless_has_bytes P word t A has a =
    ⊎_elim (λ x. subst (λ (s : List ℕ). 0 < length s) (sym x.1) (omega arith)) (λ x. has x.1) a

-- ---- the list of closed subsets

pub few_or_many : (K : PairColouring) → (rank_of K ≤ MOST_SET_RANK) ⊎ ¬ (rank_of K ≤ MOST_SET_RANK)
few_or_many K = ⊎_elim (λ many. inr (λ few. omega (arith, many, few))) (λ few. inl few) (cases_lt MOST_SET_RANK (rank_of K))

pub has_closed : (K : PairColouring) → (t : List ℕ) × ListsClosed K t
has_closed K =
    has_answer_unless (rank_of K ≤ MOST_SET_RANK) (codes "RankAbove") (λ t. (sets : List (List ℕ)) × ClosedSets K sets × (t ≡ sets_text_of Closed sets)) (few_or_many K)
    (λ few. let sets = closed_sets_exist K in (sets_text_of Closed sets.0, (sets.0, sets.1, refl)))

pub one_closed : (K : PairColouring) (t u : List ℕ) → ListsClosed K t → ListsClosed K u → t ≡ u
one_closed K t u a b = one_answer_unless (rank_of K ≤ MOST_SET_RANK) (codes "RankAbove") t u _ _ (λ x y. x.2 ∙ ap (sets_text_of Closed) (closed_sets_are_unique K x.0 y.0 x.1 y.1) ∙ sym y.2) a b

pub closed_has_bytes : (K : PairColouring) (t : List ℕ) → ListsClosed K t → 0 < length t
closed_has_bytes K t a = answer_unless_has_bytes (rank_of K ≤ MOST_SET_RANK) (codes "RankAbove") t _ (λ x. subst (λ (s : List ℕ). 0 < length s) (sym x.2) (omega arith)) a

-- ---- the visitor has room for all of them

those_fewer : {X : Type 0} (P : X → Type 0) (all xs : List X) → AreThose P all xs → length xs ≤ length all
those_fewer P [] xs are = omega (arith, ap length are)
those_fewer P (x ∷ all) xs are = ⊎_elim (λ yes. omega (arith, ap length yes.2, those_fewer P all yes.0 yes.3)) (λ no. omega (arith, those_fewer P all xs no.1)) are

length-subsets : (n : ℕ) → length (subsets n) ≡ 2 ^ n
length-subsets n = sym (length-map (subsets n) bit_number) ∙ ap length (subsets_are_all.in_order n) ∙ length-range_with_len 0 (2 ^ n)

sets_are_few : (P : List ℕ → Type 0) (r : ℕ) (sets : List (List ℕ)) → r ≤ MOST_SET_RANK → AreThose P (subsets r) sets → length sets ≤ 65536
sets_are_few P r sets few are =
    omega (arith, those_fewer P (subsets r) sets are, length-subsets r, pow-le-pow_right {n = 2} (omega arith) {i = r} {j = 16} few)

-- what was met in so much room is the whole list
pub whole_sets : (P : List ℕ → Type 0) (r : ℕ) (met : List (List ℕ)) → r ≤ MOST_SET_RANK → ((sets : List (List ℕ)) × AreThose P (subsets r) sets)
    → IsCut (AreThose P (subsets r)) 65536 met → AreThose P (subsets r) met
whole_sets P r met few sets cut = subst (AreThose P (subsets r)) (sym (cut.cut sets.0 sets.1 ∙ take_all 65536 sets.0 (sets_are_few P r sets.0 few sets.1))) sets.1

-- the text of what was met in so much room is the answer
pub closed_text : (K : PairColouring) (met : List (List ℕ)) (room : ℕ) (t : List ℕ) → rank_of K ≤ MOST_SET_RANK → room ≡ 65536 → IsCut (ClosedSets K) room met
    → t ≡ sets_text_of Closed met → ListsClosed K t
closed_text K met room t few is cut same =
    inr (few, (met, whole_sets (λ set. IsClosedSet K (is_in set)) (rank_of K) met few (closed_sets_exist K) (subst (λ (r : ℕ). IsCut (ClosedSets K) r met) is cut), same))
