-- The classes of a coherent configuration and what is known of each.
use Rattle.std.specs.Prelude.{◌≡◌, ◌==◌, ℕ, ◌<◌, count_by}
use Rattle.pair_colours.specs.Colouring.{PairColouring, IsColouring, colour_at, points}
use Rattle.pair_colours.specs.Closure.{Coherent}
use Rattle.pair_colours.specs.Naming.{named_of}
use Rattle.pair_colours.specs.IntersectionNumber.{pair_of_class}

-- K is a coherent configuration, its classes named in the order of the naming walk
pub record IsConfiguration (K : PairColouring) : Type 0 where
  pub colouring : IsColouring K
  pub coherent : Coherent K
  pub named : named_of K ≡ K

-- p is a pair of points with the colour k
pub record IsPairOf (K : PairColouring) (k : ℕ) (p : ℕ × ℕ) : Type 0 where
  pub row : p.0 < K.size
  pub column : p.1 < K.size
  pub colour : colour_at K p.0 p.1 ≡ k

-- how many points have the colour k from x
abbrev pub row_count : PairColouring → ℕ → ℕ → ℕ
row_count K x k = count_by (λ v. colour_at K x v == k) (points K.size)

-- the valency of class k: how many points v have (x, v) in k, for its first pair (x, y)
-- (Bailey, Association Schemes, 2004, section 1.2)
abbrev pub valency_of : PairColouring → ℕ → ℕ
valency_of K k = row_count K (pair_of_class K k).0 k

-- how many pairs have the colour k
abbrev pub class_size : PairColouring → ℕ → ℕ
class_size K k = count_by (λ colour. colour == k) K.colours

-- the fibres that class k joins: the colours of (x, x) and (y, y), for its first pair (x, y)
-- (Higman, Coherent configurations I, 1975)
abbrev pub fibres_of : PairColouring → ℕ → ℕ × ℕ
fibres_of K k = (colour_at K (pair_of_class K k).0 (pair_of_class K k).0, colour_at K (pair_of_class K k).1 (pair_of_class K k).1)

-- how many points x have the colour c at (x, x)
abbrev pub fibre_size : PairColouring → ℕ → ℕ
fibre_size K c = count_by (λ x. colour_at K x x == c) (points K.size)

-- each pair has a colour below n
pub record HasColoursBelow (K : PairColouring) (n : ℕ) : Type 0 where
  pub below : (x y : ℕ) → x < K.size → y < K.size → colour_at K x y < n
