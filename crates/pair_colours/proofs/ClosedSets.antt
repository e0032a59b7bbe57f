-- The list of all closed sets: closedness is decided by a search over the points.
use Rattle.std.proofs.Common.{ℕ, ◌<◌, ◌⊎◌, Bool, true, false, IsTrue, inl, inr, ⊎_elim, refl}
use Rattle.pair_colours.specs.Colouring.{PairColouring, colour_at}
use Rattle.pair_colours.specs.ColourSets.{is_in}
use Rattle.pair_colours.specs.ClosedSet.{IsClosedSet, ClosedSetsExist, ClosedSetsAreUnique}
use Rattle.pair_colours.specs.Naming.{rank_of}
use Rattle.pair_colours.specs.Subsets.{subsets}
use Rattle.pair_colours.proofs.ColourSets.{implies_or_not, symmetric_or_not}
use Rattle.pair_colours.proofs.Reaching.{all_below}
use Rattle.pair_colours.proofs.ThoseLemmas.{those_unique, those_exist}

true_or_not : (b : Bool) → IsTrue b ⊎ ¬ IsTrue b
true_or_not true = inl refl
true_or_not false = inr (λ e. cc)

-- a test of three things, of which the first two hold only where the third does
implies_both_or_not : (a b c : Bool) → (IsTrue a → IsTrue b → IsTrue c) ⊎ ¬ (IsTrue a → IsTrue b → IsTrue c)
implies_both_or_not true b c = ⊎_elim
    (λ h. inl (λ _. h))
    (λ no. inr (λ h. no (h refl)))
    (implies_or_not b c)
implies_both_or_not false b c = inl (λ e. absurd cc)

transitive_at_or_not : (K : PairColouring) (set : ℕ → Bool) (x : ℕ)
    → ((y : ℕ) → y < K.size → (z : ℕ) → z < K.size → IsTrue (set (colour_at K x y)) → IsTrue (set (colour_at K y z)) → IsTrue (set (colour_at K x z)))
    ⊎ ¬ ((y : ℕ) → y < K.size → (z : ℕ) → z < K.size → IsTrue (set (colour_at K x y)) → IsTrue (set (colour_at K y z)) → IsTrue (set (colour_at K x z)))
transitive_at_or_not K set x =
    all_below (λ y. (z : ℕ) → z < K.size → IsTrue (set (colour_at K x y)) → IsTrue (set (colour_at K y z)) → IsTrue (set (colour_at K x z))) K.size
    (λ y _. all_below (λ z. IsTrue (set (colour_at K x y)) → IsTrue (set (colour_at K y z)) → IsTrue (set (colour_at K x z))) K.size
    (λ z _. implies_both_or_not (set (colour_at K x y)) (set (colour_at K y z)) (set (colour_at K x z))))

-- a set is closed or not
pub closed_or_not : (K : PairColouring) (set : ℕ → Bool) → IsClosedSet K set ⊎ ¬ IsClosedSet K set
closed_or_not K set =
    ⊎_elim
    (λ reflexive. ⊎_elim
    (λ symmetric. ⊎_elim
    (λ transitive. inl (record { reflexive = reflexive; symmetric = symmetric; transitive = λ x y z hx hy hz. transitive x hx y hy z hz }))
    (λ no. inr (λ closed. no (λ x hx y hy z hz. closed.transitive x y z hx hy hz)))
    (all_below
    (λ x. (y : ℕ) → y < K.size → (z : ℕ) → z < K.size → IsTrue (set (colour_at K x y)) → IsTrue (set (colour_at K y z)) → IsTrue (set (colour_at K x z)))
    K.size (λ x _. transitive_at_or_not K set x)))
    (λ no. inr (λ closed. no closed.symmetric))
    (symmetric_or_not K set))
    (λ no. inr (λ closed. no closed.reflexive))
    (all_below (λ x. IsTrue (set (colour_at K x x))) K.size (λ x _. true_or_not (set (colour_at K x x))))

-- so there is one list of the closed sets
pub closed_sets_exist : ClosedSetsExist
closed_sets_exist K = those_exist (λ set. IsClosedSet K (is_in set)) (subsets (rank_of K)) (λ set _. closed_or_not K (is_in set))

pub closed_sets_are_unique : ClosedSetsAreUnique
closed_sets_are_unique K xs ys = those_unique (λ set. IsClosedSet K (is_in set)) (subsets (rank_of K)) xs ys
