-- Short numbers of the classes in the rows of a square matrix: row x has the places from x * size on.
use Rattle.std.specs.Prelude.{◌≡◌, ◌≢◌, ℕ, ◌+◌, ◌*◌, ◌<◌, ◌≤◌, List, length, slice_index}

-- each class in row x stands in row a, too
pub record Covers (size : ℕ) (class : List ℕ) (a x : ℕ) : Type 0 where
  pub at : (z : ℕ) → z < size → (w : ℕ) × (w < size) × (slice_index class (a * size + w) ≡ slice_index class (x * size + z))

-- row a is the first in which each class of row x stands
pub record IsLead (size : ℕ) (class : List ℕ) (a x : ℕ) : Type 0 where
  pub inside : a < size
  pub covers : Covers size class a x
  pub first : (b : ℕ) → Covers size class b x → a ≤ b

-- the first place in row a where class k stands
pub record IsFirstPlace (size : ℕ) (class : List ℕ) (a k place : ℕ) : Type 0 where
  pub inside : place < size
  pub stands : slice_index class (a * size + place) ≡ k
  pub first : (w : ℕ) → w < size → slice_index class (a * size + w) ≡ k → place ≤ w

-- each row has its lead, and each class in it the first place where it stands in the row of the lead
pub record IsRowCode (size : ℕ) (class leads places : List ℕ) : Type 0 where
  pub leads_len : length leads ≡ size
  pub places_len : length places ≡ size * size
  pub lead : (x : ℕ) → x < size → IsLead size class (slice_index leads x) x
  pub place : (x z : ℕ) → x < size → z < size → IsFirstPlace size class (slice_index leads x) (slice_index class (x * size + z)) (slice_index places (x * size + z))

-- `short` has a number below the size for each class, and for those in row a their first places there
pub record IsShort (size : ℕ) (class : List ℕ) (a : ℕ) (short : List ℕ) : Type 0 where
  pub low : (k : ℕ) → slice_index short k < size
  pub place : (w : ℕ) → w < size → IsFirstPlace size class a (slice_index class (a * size + w)) (slice_index short (slice_index class (a * size + w)))

-- row x has got its places from `short`, and the other rows are as they were
pub record IsRowWritten (size : ℕ) (class short : List ℕ) (x : ℕ) (old new : List ℕ) : Type 0 where
  pub len : length new ≡ length old
  pub row : (z : ℕ) → z < size → slice_index new (x * size + z) ≡ slice_index short (slice_index class (x * size + z))
  pub others : (y w : ℕ) → y < size → w < size → y ≢ x → slice_index new (y * size + w) ≡ slice_index old (y * size + w)

-- what is known of row x once the rows before t were tried: its lead stands for none as the size
pub record IsRowTried (size : ℕ) (class : List ℕ) (t : ℕ) (leads places : List ℕ) (x : ℕ) : Type 0 where
  pub open_still : slice_index leads x ≡ size → (b : ℕ) → b < t → ¬ Covers size class b x
  pub lead : slice_index leads x ≢ size → IsLead size class (slice_index leads x) x
  pub place : slice_index leads x ≢ size → (z : ℕ) → z < size → IsFirstPlace size class (slice_index leads x) (slice_index class (x * size + z)) (slice_index places (x * size + z))

-- a matrix, its classes below the number of its entries
pub record IsSquare (size : ℕ) (class : List ℕ) : Type 0 where
  pub points : 1 ≤ size
  pub limit : size ≤ 256
  pub len : length class ≡ size * size
  pub below : (p : ℕ) → p < size * size → slice_index class p < size * size
