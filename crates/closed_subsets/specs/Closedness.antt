-- Closed sets by the structure constants alone (Zieschang, Theory of Association Schemes, 2005, chapter 2).
use Rattle.std.specs.Prelude.{◌≡◌, ◌↔◌, ℕ, ◌<◌, Bool, IsTrue}
use Rattle.pair_colours.specs.Colouring.{PairColouring, colour_at}
use Rattle.pair_colours.specs.ClosedSet.{IsClosedSet}
use Rattle.pair_colours.specs.Naming.{rank_of}
use Rattle.pair_colours.specs.IntersectionNumber.{pair_of_class, intersection_number}
use Rattle.struct_consts.specs.ClassData.{IsConfiguration}

-- the set has each diagonal class
pub record HasDiagonals (K : PairColouring) (set : ℕ → Bool) : Type 0 where
  pub diagonal : (c : ℕ) → c < rank_of K → (pair_of_class K c).0 ≡ (pair_of_class K c).1 → IsTrue (set c)

-- with each class it has the class of the turned pairs
pub record HasTransposes (K : PairColouring) (set : ℕ → Bool) : Type 0 where
  pub turned : (c : ℕ) → c < rank_of K → IsTrue (set c) → IsTrue (set (colour_at K (pair_of_class K c).1 (pair_of_class K c).0))

-- with i and any class j it has each class k for which p(i, j; k) is not 0
pub record HasProductsOf (K : PairColouring) (i : ℕ) (set : ℕ → Bool) : Type 0 where
  pub product : (j k : ℕ) → j < rank_of K → k < rank_of K → IsTrue (set j) → 0 < intersection_number K i j k → IsTrue (set k)

-- with any classes i and j
pub record HasProducts (K : PairColouring) (set : ℕ → Bool) : Type 0 where
  pub products : (i : ℕ) → i < rank_of K → IsTrue (set i) → HasProductsOf K i set

-- what the structure constants say of a closed set
pub record IsClosedByConstants (K : PairColouring) (set : ℕ → Bool) : Type 0 where
  pub diagonals : HasDiagonals K set
  pub transposes : HasTransposes K set
  pub products : HasProducts K set

-- a set of colours of a configuration is closed exactly where the structure constants say so
abbrev pub ClosedByConstants : Type 0
ClosedByConstants = (K : PairColouring) → IsConfiguration K → (set : ℕ → Bool) → IsClosedSet K set ↔ IsClosedByConstants K set
