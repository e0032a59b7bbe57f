-- Intersection numbers and intersection arrays (Brouwer, Cohen and Neumaier, section 4.1).
use Rattle.std.specs.Prelude.{◌≡◌, ◌↔◌, ◌+◌, ◌*◌, ◌<◌, ◌≤◌, ℕ, Bool, IsTrue, List, length, slice_index, count_by}
use Rattle.pair_colours.specs.Colouring.{points}
use Rattle.drg_arrays.specs.Graph.{Graph, IsEdge}
use Rattle.drg_arrays.specs.Distance.{IsDistance, IsConnected, IsDiameter}

-- exactly n points of G have the property
pub record IsCount (G : Graph) (P : ℕ → Type 0) (n : ℕ) : Type 0 where
  pub test : ℕ → Bool
  pub decides : (w : ℕ) → w < G.size → IsTrue (test w) ↔ P w
  pub counts : count_by test (points G.size) ≡ n

-- w is a neighbour of v, and one step nearer to u
pub record IsNearerNeighbour (G : Graph) (u v w : ℕ) : Type 0 where
  pub neighbour : IsEdge G v w
  pub distance : ℕ
  pub from_u : IsDistance G u v (distance + 1)
  pub nearer : IsDistance G u w distance

-- w is a neighbour of v, and one step farther from u
pub record IsFartherNeighbour (G : Graph) (u v w : ℕ) : Type 0 where
  pub neighbour : IsEdge G v w
  pub distance : ℕ
  pub from_u : IsDistance G u v distance
  pub farther : IsDistance G u w (distance + 1)

-- the numbers c and b of the pair (u, v): how many neighbours of v are nearer to u than v is, and how many are farther
pub record HasNumbers (G : Graph) (u v c b : ℕ) : Type 0 where
  pub nearer : IsCount G (IsNearerNeighbour G u v) c
  pub farther : IsCount G (IsFartherNeighbour G u v) b

-- (x, y) is the first pair with the property, all pairs taken row by row
pub record IsFirstPair (G : Graph) (P : ℕ → ℕ → Type 0) (x y : ℕ) : Type 0 where
  pub row : x < G.size
  pub column : y < G.size
  pub holds : P x y
  pub first : (u v : ℕ) → u < G.size → v < G.size → P u v → x * G.size + y ≤ u * G.size + v

-- the pairs (u, v) and (x, y) are at one distance
pub record AtOneDistance (G : Graph) (u v x y : ℕ) : Type 0 where
  pub distance : ℕ
  pub of_one : IsDistance G u v distance
  pub of_other : IsDistance G x y distance

-- c or b of the pair (u, v) is not that of the first pair at its distance, (x, y)
pub record IsIrregular (G : Graph) (u v : ℕ) : Type 0 where
  pub x : ℕ
  pub y : ℕ
  pub first : IsFirstPair G (AtOneDistance G u v) x y
  pub c : ℕ
  pub b : ℕ
  pub own : HasNumbers G u v c b
  pub first_c : ℕ
  pub first_b : ℕ
  pub of_first : HasNumbers G x y first_c first_b
  pub differ : ¬ ((c ≡ first_c) × (b ≡ first_b))

-- G is distance-regular with the intersection array {b_0, .., b_(d-1); c_1, .., c_d}, where d is its diameter:
-- for points u and v at distance i, b_i neighbours of v are farther from u than v is, and c_i are nearer
pub record HasArray (G : Graph) (b c : List ℕ) : Type 0 where
  pub connected : IsConnected G
  pub diameter : IsDiameter G (length b)
  pub lengths : length c ≡ length b
  pub farther : (u v i : ℕ) → u < G.size → v < G.size → IsDistance G u v i → i < length b
      → IsCount G (IsFartherNeighbour G u v) (slice_index b i)
  pub nearer : (u v i : ℕ) → u < G.size → v < G.size → IsDistance G u v (i + 1) → i < length c
      → IsCount G (IsNearerNeighbour G u v) (slice_index c i)
