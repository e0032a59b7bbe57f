-- The answers that speak of fusions.
use Rattle.std.proofs.Common.{◌≡◌, ◌<◌, ◌≤◌, ◌⊎◌, ℕ, ◌+◌, ◌-◌, Bool, true, List, [], ◌++◌, length, take, drop, Option, Some, None, ltb, ⊎_elim, refl, sym, ap, subst, ◌∙◌, inl, inr, arith}
use Rattle.std.specs.Borrow.{Bor}
use Rattle.std.specs.Prelude.{codes, if◌then◌else◌}
use Rattle.std.proofs.Math.Nat.{min-le_left}
use Rattle.std.proofs.lemmas.Bool.{cases_lt, lt-ltb}
use Rattle.std.proofs.lemmas.List.{take_all, take-append-le, take-append-drop, length-take, length-take-le, get_or_append_left, length-append}
use Rattle.pair_colours.specs.Colouring.{PairColouring}
use Rattle.pair_colours.specs.Naming.{rank_of}
use Rattle.pair_colours.specs.Subsets.{subsets}
use Rattle.pair_colours.proofs.ThoseLemmas.{those_unique}
use Rattle.struct_consts.specs.ClassData.{IsConfiguration}
use Rattle.visitors.specs.Entries.{entry_at}
use Rattle.visitors.specs.Lists.{IsCut}
use Rattle.visitors.specs.declared.visitor.TheConstants.{MOST_SET_RANK}
use Rattle.colour_wl.specs.Fusions.{merge, Fuses, FusesAfter, IsFusionsAfter}
use Rattle.colour_wl.specs.GrowthStrings.{IsGrowth, growth_strings}
use Rattle.colour_wl.proofs.Coarser.{closed_by_fusion, one_closing}
use Rattle.colour_wl.proofs.Existing.{some_or_none, fusions_exist, fusions_after_exist}
use Rattle.colour_wl.proofs.Growth.{list_same_or_not, growth_strings_grow, growth_strings_listed}
use Rattle.colour_wl.proofs.Merged.{IsColouring-merge, refines-merge}
use Rattle.good_subsets.specs.GoodSets.{IsGood, IsGoodSets}
use Rattle.good_subsets.proofs.Deciding.{good_sets_exist}
use Rattle.mergings.specs.Mergings.{IsMergings, IsNoGrowth}
use Rattle.report_text.specs.EditLines.{refused_text_of}
use Rattle.report_text.specs.Entries.{entry_line, entry_lines}
use Rattle.report_text.specs.Sets.{sets_text_of}
use Rattle.report_text.specs.Strings.{close_text_of, mergings_text_of}
use Rattle.report_text.specs.declared.sets.SetHead.TheVariants.{Good}
use Rattle.cohere_core.specs.Fusions.{IsClosedString, AnswersClose, ListsGood, ListsFusions, AnswersMergings, string_in}
use Rattle.cohere_core.proofs.ClosedLists.{has_answer_unless, one_answer_unless, answer_unless_has_bytes, few_or_many, whole_sets}

-- ---- closed strings

growth_or_not : (r : ℕ) (a : List ℕ) → IsGrowth r a ⊎ ¬ IsGrowth r a
growth_or_not r a =
    ⊎_elim
    (λ s. inl (subst (IsGrowth r) (sym s.2) (growth_strings_grow r s.0 s.1)))
    (λ none. inr (λ g. none a (growth_strings_listed r a g) refl))
    (some_or_none (λ s. a ≡ s) (growth_strings r) (λ s. list_same_or_not a s))

closed_string : (K : PairColouring) → IsConfiguration K → (a : List ℕ) → (b : List ℕ) × IsClosedString K a b
closed_string K h a =
    let b = closed_by_fusion K (merge K a) h (IsColouring-merge K h.colouring a) (refines-merge K h.colouring a) in
    (b.0, record { growth = b.1.growth; closure = b.2.closure })

one_closed_string : (K : PairColouring) → IsConfiguration K → (a b c : List ℕ) → IsClosedString K a b → IsClosedString K a c → b ≡ c
one_closed_string K h a b c x y = one_closing K (merge K a) h b c x.growth y.growth x.closure y.closure

pub has_close : (K : PairColouring) → IsConfiguration K → (a : List ℕ) → (t : List ℕ) × AnswersClose K a t
has_close K h a =
    has_answer_unless (IsGrowth (rank_of K) a) (codes "NotGrowth") (λ t. (b : List ℕ) × IsClosedString K a b × (t ≡ close_text_of b)) (growth_or_not (rank_of K) a)
    (λ _. let b = closed_string K h a in (close_text_of b.0, (b.0, b.1, refl)))

pub one_close : (K : PairColouring) → IsConfiguration K → (a t u : List ℕ) → AnswersClose K a t → AnswersClose K a u → t ≡ u
one_close K h a t u x y =
    one_answer_unless (IsGrowth (rank_of K) a) (codes "NotGrowth") t u _ _ (λ b c. b.2 ∙ ap close_text_of (one_closed_string K h a b.0 c.0 b.1 c.1) ∙ sym c.2) x y

pub close_has_bytes : (K : PairColouring) (a t : List ℕ) → AnswersClose K a t → 0 < length t
close_has_bytes K a t x = answer_unless_has_bytes (IsGrowth (rank_of K) a) (codes "NotGrowth") t _ (λ b. subst (λ (s : List ℕ). 0 < length s) (sym b.2) (omega arith)) x

-- ---- the list of good subsets

pub has_good : (K : PairColouring) → (t : List ℕ) × ListsGood K t
has_good K =
    has_answer_unless (rank_of K ≤ MOST_SET_RANK) (codes "RankAbove") (λ t. (sets : List (List ℕ)) × IsGoodSets K sets × (t ≡ sets_text_of Good sets)) (few_or_many K)
    (λ few. let sets = good_sets_exist K in (sets_text_of Good sets.0, (sets.0, sets.1, refl)))

pub one_good : (K : PairColouring) (t u : List ℕ) → ListsGood K t → ListsGood K u → t ≡ u
one_good K t u a b =
    one_answer_unless (rank_of K ≤ MOST_SET_RANK) (codes "RankAbove") t u _ _
    (λ x y. x.2 ∙ ap (sets_text_of Good) (those_unique (IsGood K) (subsets (rank_of K)) x.0 y.0 x.1 y.1) ∙ sym y.2) a b

pub good_has_bytes : (K : PairColouring) (t : List ℕ) → ListsGood K t → 0 < length t
good_has_bytes K t a = answer_unless_has_bytes (rank_of K ≤ MOST_SET_RANK) (codes "RankAbove") t _ (λ x. subst (λ (s : List ℕ). 0 < length s) (sym x.2) (omega arith)) a

-- the text of what was met in so much room is the answer
pub good_text : (K : PairColouring) (met : List (List ℕ)) (room : ℕ) (t : List ℕ) → rank_of K ≤ MOST_SET_RANK → room ≡ 65536 → IsCut (IsGoodSets K) room met
    → t ≡ sets_text_of Good met → ListsGood K t
good_text K met room t few is cut same = inr (few, (met, whole_sets (IsGood K) (rank_of K) met few (good_sets_exist K) (subst (λ (r : ℕ). IsCut (IsGoodSets K) r met) is cut), same))

-- ---- the list of fusions

fusions_listed : (K : PairColouring) (most : ℕ) (after : Option (List ℕ)) → (t : List ℕ) × ListsFusions K most after t
fusions_listed K most None = let fusions = fusions_exist K in (mergings_text_of fusions.0 most, (fusions.0, fusions.1, refl))
fusions_listed K most (Some after) =
    has_answer_unless (IsGrowth (rank_of K) after) (codes "NotGrowth") (λ t. (fusions : List (List ℕ)) × IsFusionsAfter K after fusions × (t ≡ mergings_text_of fusions most)) (growth_or_not (rank_of K) after)
    (λ _. let fusions = fusions_after_exist K after in (mergings_text_of fusions.0 most, (fusions.0, fusions.1, refl)))

pub has_mergings : (K : PairColouring) (most : ℕ) (after : Option (List ℕ)) → (t : List ℕ) × AnswersMergings K most after t
has_mergings K most after =
    has_answer_unless (rank_of K ≤ MOST_SET_RANK) (codes "RankAbove") (λ t. ListsFusions K most after t) (few_or_many K) (λ few. fusions_listed K most after)

one_list : (K : PairColouring) (most : ℕ) (after : Option (List ℕ)) (t u : List ℕ) → ListsFusions K most after t → ListsFusions K most after u → t ≡ u
one_list K most None t u a b = a.2 ∙ ap (λ fusions. mergings_text_of fusions most) (those_unique (Fuses K) (growth_strings (rank_of K)) a.0 b.0 a.1 b.1) ∙ sym b.2
one_list K most (Some after) t u a b =
    one_answer_unless (IsGrowth (rank_of K) after) (codes "NotGrowth") t u _ _
    (λ x y. x.2 ∙ ap (λ fusions. mergings_text_of fusions most) (those_unique (FusesAfter K after) (growth_strings (rank_of K)) x.0 y.0 x.1 y.1) ∙ sym y.2) a b

pub one_mergings : (K : PairColouring) (most : ℕ) (after : Option (List ℕ)) (t u : List ℕ) → AnswersMergings K most after t → AnswersMergings K most after u → t ≡ u
one_mergings K most after t u a b = one_answer_unless (rank_of K ≤ MOST_SET_RANK) (codes "RankAbove") t u _ _ (one_list K most after t u) a b

list_has_bytes : (K : PairColouring) (most : ℕ) (after : Option (List ℕ)) (t : List ℕ) → ListsFusions K most after t → 0 < length t
list_has_bytes K most None t a = subst (λ (s : List ℕ). 0 < length s) (sym a.2) (omega arith)
list_has_bytes K most (Some after) t a = answer_unless_has_bytes (IsGrowth (rank_of K) after) (codes "NotGrowth") t _ (λ x. subst (λ (s : List ℕ). 0 < length s) (sym x.2) (omega arith)) a

pub mergings_has_bytes : (K : PairColouring) (most : ℕ) (after : Option (List ℕ)) (t : List ℕ) → AnswersMergings K most after t → 0 < length t
mergings_has_bytes K most after t a = answer_unless_has_bytes (rank_of K ≤ MOST_SET_RANK) (codes "RankAbove") t _ (list_has_bytes K most after t) a

-- what follows the entry after the last one shown does not matter
end_of : (rest : Bool) (last : List ℕ) → List ℕ
end_of rest last = if rest then codes "next after " ++ entry_line last else codes "end\n"

text_of_front : (met rest : List (List ℕ)) (most : ℕ) → length met ≡ most + 1 → mergings_text_of met most ≡ mergings_text_of (met ++ rest) most
unfolding end_of
text_of_front met rest most len =
    let shown : take most (met ++ rest) ≡ take most met = take-append-le most met rest (omega (arith, len)) in
    let more : ltb most (length met) ≡ true = lt-ltb most (length met) (omega (arith, len)) in
    let still : ltb most (length (met ++ rest)) ≡ true = lt-ltb most (length (met ++ rest)) (omega (arith, len, length-append met rest)) in
    let last : entry_at (met ++ rest) (most - 1) ≡ entry_at met (most - 1) = get_or_append_left met rest [] (most - 1) (omega (arith, len)) in
    λ i. codes "mergings\n" ++ (entry_lines (sym shown i) ++ end_of ((more ∙ sym still) i) (sym last i))

-- the text of what was met in room for one more is that of the whole list
pub text_of_cut : (met whole : List (List ℕ)) (most : ℕ) → met ≡ take (most + 1) whole → mergings_text_of met most ≡ mergings_text_of whole most
text_of_cut met whole most cut =
    ⊎_elim
    (λ (short : length whole < most + 1). ap (λ list. mergings_text_of list most) (cut ∙ take_all (most + 1) whole (omega (arith, short))))
    (λ (long : most + 1 ≤ length whole).
    text_of_front met (drop (most + 1) whole) most (ap length cut ∙ length-take-le (most + 1) whole long)
    ∙ ap (λ list. mergings_text_of list most) (ap (λ front. front ++ drop (most + 1) whole) cut ∙ take-append-drop (most + 1) whole))
    (cases_lt (length whole) (most + 1))

-- there is a list that is asked for
mergings_exist : (K : PairColouring) (after : Option (Bor (List ℕ))) → (fusions : List (List ℕ)) × IsMergings K after fusions
mergings_exist K None = fusions_exist K
mergings_exist K (Some after) = fusions_after_exist K after.now

-- no more was met than there is room for
pub few_met : (K : PairColouring) (most room : ℕ) (after : Option (Bor (List ℕ))) (met : List (List ℕ)) → room ≡ most + 1 → IsCut (IsMergings K after) room met → length met ≤ most + 1
few_met K most room after met is cut =
    let fusions = mergings_exist K after in
    omega (arith, is, ap length (cut.cut fusions.0 fusions.1), length-take room fusions.0, min-le_left room (length fusions.0))

-- what was met is the list that is asked for
pub mergings_text : (K : PairColouring) (most room : ℕ) (after : Option (Bor (List ℕ))) (met : List (List ℕ)) (t : List ℕ) → rank_of K ≤ MOST_SET_RANK → ¬ IsNoGrowth (rank_of K) after
    → room ≡ most + 1 → IsCut (IsMergings K after) room met → t ≡ mergings_text_of met most → AnswersMergings K most (string_in after) t
mergings_text K most room None met t few grows is cut same =
    let fusions = fusions_exist K in
    inr (few, (fusions.0, fusions.1, same ∙ text_of_cut met fusions.0 most (cut.cut fusions.0 fusions.1 ∙ ap (λ n. take n fusions.0) is)))
mergings_text K most room (Some after) met t few grows is cut same =
    let fusions = fusions_after_exist K after.now in
    let growth = ⊎_elim (λ yes. yes) (λ no. absurd (grows no)) (growth_or_not (rank_of K) after.now) in
    inr (few, inr (growth, (fusions.0, fusions.1, same ∙ text_of_cut met fusions.0 most (cut.cut fusions.0 fusions.1 ∙ ap (λ n. take n fusions.0) is))))

-- the string that is given is refused
pub mergings_refused : (K : PairColouring) (most : ℕ) (after : Option (Bor (List ℕ))) (t : List ℕ) → rank_of K ≤ MOST_SET_RANK → IsNoGrowth (rank_of K) after
    → t ≡ refused_text_of (codes "NotGrowth") → AnswersMergings K most (string_in after) t
mergings_refused K most None t few none same = absurd none
mergings_refused K most (Some after) t few none same = inr (few, inl (none, same))
