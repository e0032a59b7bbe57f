-- The answers of a quotient and of a subscheme.
use Rattle.std.proofs.Common.{◌≡◌, ◌<◌, ◌⊎◌, ℕ, Bool, true, false, IsTrue, List, length, ⊎_elim, refl, sym, ap, subst, ◌∙◌, inl, inr, arith}
use Rattle.std.specs.Prelude.{◌↔◌, codes, Result, Err, IsErrOf}
use Rattle.std.proofs.lemmas.Bool.{cases_eq, cases_lt}
use Rattle.pair_colours.specs.Colouring.{PairColouring, IsColouring, colour_at}
use Rattle.pair_colours.specs.ColourSets.{is_in}
use Rattle.pair_colours.specs.ClosedSet.{IsClosedSet}
use Rattle.pair_colours.specs.Closure.{Coherent}
use Rattle.pair_colours.proofs.LawProofs.{colour_set_or_not}
use Rattle.pair_colours.proofs.ColourSets.{implies_or_not, symmetric_or_not}
use Rattle.pair_colours.proofs.Reaching.{all_below}
use Rattle.quotients.specs.Law.{IsParted}
use Rattle.pair_colours.specs.Fibres.{HasOneFibre}
use Rattle.quotients.specs.Quotient.{IsClosedSubset, Quotient, Subscheme}
use Rattle.quotients.proofs.LawProofs.{quotient_exists, quotient_is_unique, subscheme_exists, subscheme_is_unique}
use Rattle.quotients.specs.declared.dividing.QuotientFault.{QuotientFault}
use Rattle.quotients.specs.declared.dividing.QuotientFault.TheVariants as faults
use Rattle.report_text.specs.EditLines.{refused_text_of}
use Rattle.report_text.specs.Matrices.{quotient_text, sub_text}
use Rattle.report_text.specs.Refusals.{RefusedUnless}
use Rattle.cohere_core.specs.ClosedSubsets.{NeedsClosed, AnswersQuotient, AnswersSub}
use Rattle.cohere_core.proofs.ClosedLists.{has_answer_unless, one_answer_unless, answer_unless_has_bytes}

-- ---- what can be decided

-- there is one fibre or not
pub one_fibre_or_not : (K : PairColouring) → HasOneFibre K ⊎ ¬ HasOneFibre K
one_fibre_or_not K =
    ⊎_elim
    (λ all. inl (record { one_fibre = λ x y hx hy. all x hx y hy }))
    (λ no. inr (λ one. no (λ x hx y hy. one.one_fibre x y hx hy)))
    (all_below (λ x. (y : ℕ) → y < K.size → colour_at K x x ≡ colour_at K y y) K.size
    (λ x _. all_below (λ y. colour_at K x x ≡ colour_at K y y) K.size (λ y _. cases_eq (colour_at K x x) (colour_at K y y))))

true_or_not : (b : Bool) → IsTrue b ⊎ ¬ IsTrue b
true_or_not true = inl refl
true_or_not false = inr (λ e. cc)

-- a test of three things, of which the first two hold only where the third does
implies_both_or_not : (a b c : Bool) → (IsTrue a → IsTrue b → IsTrue c) ⊎ ¬ (IsTrue a → IsTrue b → IsTrue c)
implies_both_or_not true b c = ⊎_elim (λ h. inl (λ _. h)) (λ no. inr (λ h. no (h refl))) (implies_or_not b c)
implies_both_or_not false b c = inl (λ e. absurd cc)

transitive_or_not : (K : PairColouring) (set : ℕ → Bool)
    → ((x : ℕ) → x < K.size → (y : ℕ) → y < K.size → (z : ℕ) → z < K.size → IsTrue (set (colour_at K x y)) → IsTrue (set (colour_at K y z)) → IsTrue (set (colour_at K x z)))
    ⊎ ¬ ((x : ℕ) → x < K.size → (y : ℕ) → y < K.size → (z : ℕ) → z < K.size → IsTrue (set (colour_at K x y)) → IsTrue (set (colour_at K y z)) → IsTrue (set (colour_at K x z)))
transitive_or_not K set =
    all_below (λ x. (y : ℕ) → y < K.size → (z : ℕ) → z < K.size → IsTrue (set (colour_at K x y)) → IsTrue (set (colour_at K y z)) → IsTrue (set (colour_at K x z))) K.size
    (λ x _. all_below (λ y. (z : ℕ) → z < K.size → IsTrue (set (colour_at K x y)) → IsTrue (set (colour_at K y z)) → IsTrue (set (colour_at K x z))) K.size
    (λ y _. all_below (λ z. IsTrue (set (colour_at K x y)) → IsTrue (set (colour_at K y z)) → IsTrue (set (colour_at K x z))) K.size
    (λ z _. implies_both_or_not (set (colour_at K x y)) (set (colour_at K y z)) (set (colour_at K x z)))))

closed_or_not : (K : PairColouring) (set : ℕ → Bool) → IsClosedSet K set ⊎ ¬ IsClosedSet K set
closed_or_not K set =
    ⊎_elim
    (λ reflexive. ⊎_elim
    (λ symmetric. ⊎_elim
    (λ transitive. inl (record { reflexive = reflexive; symmetric = symmetric; transitive = λ x y z hx hy hz. transitive x hx y hy z hz }))
    (λ no. inr (λ closed. no (λ x hx y hy z hz. closed.transitive x y z hx hy hz)))
    (transitive_or_not K set))
    (λ no. inr (λ closed. no closed.symmetric))
    (symmetric_or_not K set))
    (λ no. inr (λ closed. no closed.reflexive))
    (all_below (λ x. IsTrue (set (colour_at K x x))) K.size (λ x _. true_or_not (set (colour_at K x x))))

-- a list of numbers is a closed subset or not
closed_subset_or_not : (K : PairColouring) (set : List ℕ) → IsColouring K → IsClosedSubset K set ⊎ ¬ IsClosedSubset K set
closed_subset_or_not K set is =
    ⊎_elim
    (λ colours. ⊎_elim (λ closed. inl (record { colours = colours; closed = closed })) (λ no. inr (λ h. no h.closed)) (closed_or_not K (is_in set)))
    (λ no. inr (λ h. no h.colours))
    (colour_set_or_not K is set)

-- ---- answers that need a closed subset

has_divided : (K : PairColouring) (set : List ℕ) (answer : List ℕ → Type 0) → IsColouring K → Coherent K → (IsParted K (is_in set) → (t : List ℕ) × answer t)
    → (t : List ℕ) × NeedsClosed K set t (answer t)
has_divided K set answer is coherent has =
    has_answer_unless (HasOneFibre K) (codes "NotHomogeneous") (λ t. RefusedUnless (IsClosedSubset K set) (codes "NotClosed") t (answer t)) (one_fibre_or_not K)
    (λ one. has_answer_unless (IsClosedSubset K set) (codes "NotClosed") answer (closed_subset_or_not K set is)
    (λ closed. has (record { colouring = is; coherent = coherent; one_fibre = one; closed = closed.closed })))

one_divided : (K : PairColouring) (set t u : List ℕ) (A B : Type 0) → (A → B → t ≡ u) → NeedsClosed K set t A → NeedsClosed K set u B → t ≡ u
one_divided K set t u A B one a b = one_answer_unless (HasOneFibre K) (codes "NotHomogeneous") t u _ _ (one_answer_unless (IsClosedSubset K set) (codes "NotClosed") t u A B one) a b

divided_has_bytes : (K : PairColouring) (set t : List ℕ) (A : Type 0) → (A → 0 < length t) → NeedsClosed K set t A → 0 < length t
divided_has_bytes K set t A has a = answer_unless_has_bytes (HasOneFibre K) (codes "NotHomogeneous") t _ (answer_unless_has_bytes (IsClosedSubset K set) (codes "NotClosed") t A has) a

-- ---- quotients

pub has_quotient : (K : PairColouring) (set : List ℕ) → IsColouring K → Coherent K → (t : List ℕ) × AnswersQuotient K set t
has_quotient K set is coherent =
    has_divided K set (λ t. (L : PairColouring) × Quotient K (is_in set) L × (t ≡ quotient_text L)) is coherent
    (λ parted. let L = quotient_exists K (is_in set) parted in (quotient_text L.0, (L.0, L.1, refl)))

pub one_quotient : (K : PairColouring) (set t u : List ℕ) → AnswersQuotient K set t → AnswersQuotient K set u → t ≡ u
one_quotient K set t u a b = one_divided K set t u _ _ (λ x y. x.2 ∙ ap quotient_text (quotient_is_unique K (is_in set) x.0 y.0 x.1 y.1) ∙ sym y.2) a b

pub quotient_has_bytes : (K : PairColouring) (set t : List ℕ) → AnswersQuotient K set t → 0 < length t
quotient_has_bytes K set t a = divided_has_bytes K set t _ (λ x. subst (λ (s : List ℕ). 0 < length s) (sym x.2) (omega arith)) a

-- ---- subschemes

below_or_not : (x n : ℕ) → (x < n) ⊎ ¬ (x < n)
below_or_not x n = ⊎_elim (λ l. inl l) (λ g. inr (λ l. omega (arith, g, l))) (cases_lt x n)

pub has_sub : (K : PairColouring) (x : ℕ) (set : List ℕ) → IsColouring K → Coherent K → (t : List ℕ) × AnswersSub K x set t
has_sub K x set is coherent =
    has_divided K set (λ t. RefusedUnless (x < K.size) (codes "PointRange") t ((L : PairColouring) × Subscheme K (is_in set) x L × (t ≡ sub_text L))) is coherent
    (λ parted. has_answer_unless (x < K.size) (codes "PointRange") (λ t. (L : PairColouring) × Subscheme K (is_in set) x L × (t ≡ sub_text L)) (below_or_not x K.size)
    (λ inside. let L = subscheme_exists K (is_in set) x parted inside in (sub_text L.0, (L.0, L.1, refl))))

pub one_sub : (K : PairColouring) (x : ℕ) (set t u : List ℕ) → AnswersSub K x set t → AnswersSub K x set u → t ≡ u
one_sub K x set t u a b =
    one_divided K set t u _ _ (one_answer_unless (x < K.size) (codes "PointRange") t u _ _ (λ l m. l.2 ∙ ap sub_text (subscheme_is_unique K (is_in set) x l.0 m.0 l.1 m.1) ∙ sym m.2)) a b

pub sub_has_bytes : (K : PairColouring) (x : ℕ) (set t : List ℕ) → AnswersSub K x set t → 0 < length t
sub_has_bytes K x set t a =
    divided_has_bytes K set t _ (answer_unless_has_bytes (x < K.size) (codes "PointRange") t _ (λ l. subst (λ (s : List ℕ). 0 < length s) (sym l.2) (omega arith))) a

-- ---- the refusals of the calls

-- a set that is refused as not closed is refused by the answer: there is one fibre, or another refusal would have come
pub not_closed_answer : {T : Type 0} (result : Result T QuotientFault) (K : PairColouring) (set t : List ℕ) (A : Type 0) → result ≡ Err faults.NotClosed
    → (IsErrOf result faults.NotHomogeneous ↔ ¬ HasOneFibre K) → (IsErrOf result faults.NotClosed → ¬ IsClosedSubset K set)
    → t ≡ refused_text_of (codes "NotClosed") → NeedsClosed K set t A
not_closed_answer result K set t A is fibres closed same =
    ⊎_elim
    (λ one. inr (one, inl (closed is, same)))
    (λ two. let other : Err faults.NotClosed ≡ Err faults.NotHomogeneous = sym is ∙ fibres.1 two in cc)
    (one_fibre_or_not K)
