-- Walks and distance in a graph (Brouwer, Cohen and Neumaier, section 1.1).
use Rattle.std.specs.Prelude.{◌≡◌, ◌+◌, ◌<◌, ◌≤◌, ℕ}
use Rattle.drg_arrays.specs.Graph.{Graph, IsEdge}

-- a walk from x to y: its points, each but the last joined to the next
pub record Walk (G : Graph) (x y length : ℕ) : Type 0 where
  pub point : ℕ → ℕ
  pub starts : point 0 ≡ x
  pub ends : point length ≡ y
  pub within : (i : ℕ) → i ≤ length → point i < G.size
  pub joined : (i : ℕ) → i < length → IsEdge G (point i) (point (i + 1))

-- some walk leads from x to y
pub record HasWalk (G : Graph) (x y : ℕ) : Type 0 where
  pub length : ℕ
  pub walk : Walk G x y length

-- d is the distance from x to y: the least length of a walk
pub record IsDistance (G : Graph) (x y d : ℕ) : Type 0 where
  pub walk : Walk G x y d
  pub least : (k : ℕ) → Walk G x y k → d ≤ k

-- each pair of points has a walk between them
pub record IsConnected (G : Graph) : Type 0 where
  pub walks : (x y : ℕ) → x < G.size → y < G.size → HasWalk G x y

-- d is the greatest distance
pub record IsDiameter (G : Graph) (d : ℕ) : Type 0 where
  pub greatest : (x y k : ℕ) → x < G.size → y < G.size → IsDistance G x y k → k ≤ d
  pub x : ℕ
  pub y : ℕ
  pub row : x < G.size
  pub column : y < G.size
  pub reached : IsDistance G x y d
