-- Triangles counted over their sides.
use Rattle.std.specs.Prelude.{◌≡◌, ◌≢◌, ◌==◌, ◌&&◌, Bool, ℕ, ◌+◌, ◌*◌, ◌<◌, List, length, slice_index, if◌then◌else◌}
use Rattle.split_cells.specs.declared.triangle_counts.Triangle.{Triangle}

-- the pair (x, y) is in the class, and the pair (z, y) is a right side
abbrev pub is_over_left : ℕ → List ℕ → Triangle → ℕ → ℕ → ℕ → Bool
is_over_left size class t x z y = (slice_index class (z * size + y) == t.right) && (slice_index class (x * size + y) == t.class)

-- the pairs (x, y) of the class for which (z, y) is a right side are counted once more
pub record IsRowCounted (size : ℕ) (class : List ℕ) (t : Triangle) (x z : ℕ) (old new : List ℕ) : Type 0 where
  pub len : length new ≡ size * size
  pub row : (y : ℕ) → y < size → slice_index new (x * size + y) ≡ slice_index old (x * size + y) + (if is_over_left size class t x z y then 1 else 0)
  pub others : (u v : ℕ) → u < size → v < size → u ≢ x → slice_index new (u * size + v) ≡ slice_index old (u * size + v)

-- the pair (x, y) is in the class, and the pair (x, z) is a left side, where turned has the transposed classes
abbrev pub is_over_right : ℕ → List ℕ → Triangle → ℕ → ℕ → ℕ → Bool
is_over_right size turned t z y x = (slice_index turned (z * size + x) == t.left) && (slice_index turned (y * size + x) == t.class)

-- the pairs (x, y) of the class for which (x, z) is a left side are counted once more
pub record IsColumnCounted (size : ℕ) (turned : List ℕ) (t : Triangle) (z y : ℕ) (old new : List ℕ) : Type 0 where
  pub len : length new ≡ size * size
  pub column : (x : ℕ) → x < size → slice_index new (x * size + y) ≡ slice_index old (x * size + y) + (if is_over_right size turned t z y x then 1 else 0)
  pub others : (u v : ℕ) → u < size → v < size → v ≢ y → slice_index new (u * size + v) ≡ slice_index old (u * size + v)
