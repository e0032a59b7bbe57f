-- Closed subsets of a configuration (Bailey, Association Schemes, 2004, chapter 10).
use Rattle.std.specs.Prelude.{◌≡◌, ℕ, ◌<◌, Bool, IsTrue, List}
use Rattle.pair_colours.specs.Colouring.{PairColouring, colour_at}
use Rattle.pair_colours.specs.ColourSets.{is_in}
use Rattle.pair_colours.specs.Naming.{rank_of}
use Rattle.pair_colours.specs.Subsets.{subsets}
use Rattle.pair_colours.specs.Those.{AreThose}

-- the pairs whose colour is in the set form an equivalence relation on all points
pub record IsClosedSet (K : PairColouring) (set : ℕ → Bool) : Type 0 where
  pub reflexive : (x : ℕ) → x < K.size → IsTrue (set (colour_at K x x))
  pub symmetric : (x y : ℕ) → x < K.size → y < K.size → IsTrue (set (colour_at K x y)) → IsTrue (set (colour_at K y x))
  pub transitive : (x y z : ℕ) → x < K.size → y < K.size → z < K.size
      → IsTrue (set (colour_at K x y)) → IsTrue (set (colour_at K y z)) → IsTrue (set (colour_at K x z))

-- the list of all closed sets of the colours 0 to r - 1, where K has r classes, in the order of their bit numbers
abbrev pub ClosedSets : PairColouring → List (List ℕ) → Type 0
ClosedSets K sets = AreThose (λ set. IsClosedSet K (is_in set)) (subsets (rank_of K)) sets

-- every colouring has this list
abbrev pub ClosedSetsExist : Type 0
ClosedSetsExist = (K : PairColouring) → (sets : List (List ℕ)) × ClosedSets K sets

-- and only one
abbrev pub ClosedSetsAreUnique : Type 0
ClosedSetsAreUnique = (K : PairColouring) (xs ys : List (List ℕ)) → ClosedSets K xs → ClosedSets K ys → xs ≡ ys
