-- Five properties of a coherent configuration (Bailey, Association Schemes, 2004; Zieschang, Theory of Association Schemes, 2005).
use Rattle.std.specs.Prelude.{◌≡◌, ◌==◌, ◌↔◌, ◌⊎◌, ℕ, ◌<◌, ◌≤◌, Bool, IsTrue, count_by}
use Rattle.pair_colours.specs.Colouring.{PairColouring, IsColour, colour_at, points}
use Rattle.pair_colours.specs.Naming.{rank_of}
use Rattle.pair_colours.specs.Fibres.{HasOneFibre}
use Rattle.pair_colours.specs.IntersectionNumber.{intersection_number}
use Rattle.pair_colours.specs.ClosedSet.{IsClosedSet}

-- all diagonal pairs have one colour
abbrev pub Homogeneous : PairColouring → Type 0
Homogeneous K = HasOneFibre K

-- a pair and the turned pair have one colour
pub record Symmetric (K : PairColouring) : Type 0 where
  pub turned : (x y : ℕ) → x < K.size → y < K.size → colour_at K x y ≡ colour_at K y x

-- the intersection numbers p(i, j; k) and p(j, i; k) are the same
pub record Commutative (K : PairColouring) : Type 0 where
  pub swapped : (i j k : ℕ) → IsColour K i → IsColour K j → IsColour K k → intersection_number K i j k ≡ intersection_number K j i k

-- homogeneous, and from each point x each colour k leads to exactly one point y
pub record Thin (K : PairColouring) : Type 0 where
  pub homogeneous : Homogeneous K
  pub one_point : (x k : ℕ) → x < K.size → IsColour K k → count_by (λ y. colour_at K x y == k) (points K.size) ≡ 1

-- of the colours of K, the set holds that of the pair (0, 0) alone
pub record HoldsDiagonal (K : PairColouring) (set : ℕ → Bool) : Type 0 where
  pub alone : (c : ℕ) → IsColour K c → IsTrue (set c) ↔ (c ≡ colour_at K 0 0)

-- the set holds every colour of K
pub record HoldsAll (K : PairColouring) (set : ℕ → Bool) : Type 0 where
  pub all : (c : ℕ) → IsColour K c → IsTrue (set c)

-- homogeneous, of rank 2 or more, and no set of colours is closed but that of the diagonal colour and that of all colours
pub record Primitive (K : PairColouring) : Type 0 where
  pub homogeneous : Homogeneous K
  pub rank : 2 ≤ rank_of K
  pub trivial : (set : ℕ → Bool) → IsClosedSet K set → HoldsDiagonal K set ⊎ HoldsAll K set

-- every closed set that holds the colour c holds all colours
pub record Spans (K : PairColouring) (c : ℕ) : Type 0 where
  pub spans : (set : ℕ → Bool) → IsClosedSet K set → IsTrue (set c) → HoldsAll K set

-- a closed set that holds the colour c, and a colour that it does not hold
pub record HasProperSet (K : PairColouring) (c : ℕ) : Type 0 where
  pub set : ℕ → Bool
  pub closed : IsClosedSet K set
  pub holds : IsTrue (set c)
  pub missing : ℕ
  pub colour : IsColour K missing
  pub misses : ¬ IsTrue (set missing)

-- p(i, j; k) and p(j, i; k) are the same at one class k
pub record CommutesAt (K : PairColouring) (k : ℕ) : Type 0 where
  pub swapped : (i j : ℕ) → i < rank_of K → j < rank_of K → intersection_number K i j k ≡ intersection_number K j i k
