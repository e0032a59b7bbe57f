-- The keys of the pairs of a class, by which a step splits it.
use Rattle.std.specs.Prelude.{◌≡◌, ◌≢◌, ◌==◌, nat_lt, ℕ, ◌+◌, ◌*◌, ◌/◌, ◌%◌, ◌<◌, ◌≤◌, ◌&&◌, List, length, slice_index, Option, Some, None, if◌then◌else◌}
use Rattle.pair_colours.specs.Colouring.{PairColouring, colour_at, triangles}
use Rattle.trace_text.specs.declared.step_list.Step.{Step}
use Rattle.trace_text.specs.declared.step_list.Step.TheVariants.{Diag, Flip, Tri, Round}
use Rattle.trace_text.specs.Parts.{keys_in}
use Rattle.split_cells.specs.Grids.{grid}

-- the class that a step splits; a round splits all, so that 0 stands for it
abbrev pub class_of : Step → ℕ
class_of (Diag k) = k
class_of (Flip k other) = k
class_of (Tri k left right) = k
class_of Round = 0

-- the key of (x, y) for a step on one class, where the pair is in it
abbrev pub key_inside : PairColouring → Step → ℕ → ℕ → ℕ
key_inside P (Diag k) x y = if x == y then 0 else 1
key_inside P (Flip k other) x y = if colour_at P y x == other then 0 else 1
key_inside P (Tri k left right) x y = triangles P x y left right
key_inside P Round x y = 0

-- the key of the pair at a place
abbrev pub key_at : PairColouring → Step → ℕ → ℕ
key_at P s p = key_inside P s (p / P.size) (p % P.size)

-- nothing is counted yet
pub record IsBlank (class counts : List ℕ) : Type 0 where
  pub len : length counts ≡ length class
  pub zero_everywhere : (p : ℕ) → slice_index counts p ≡ 0

-- the numbers of class k have their keys as counts, and the others 0
pub record IsGathered (class : List ℕ) (k : ℕ) (key : ℕ → ℕ) (counts : List ℕ) : Type 0 where
  pub len : length counts ≡ length class
  pub inside : (p : ℕ) → p < length class → slice_index class p ≡ k → slice_index counts p ≡ key p
  pub outside : (p : ℕ) → p < length class → slice_index class p ≢ k → slice_index counts p ≡ 0

-- the different counts of the pairs of class k
abbrev pub counts_in : ℕ → List ℕ → List ℕ → ℕ → List ℕ
counts_in size class counts k = keys_in (grid size class) k (λ x y. slice_index counts (x * size + y))

-- a pair of class k has this count
pub record IsKey (class counts : List ℕ) (k key : ℕ) : Type 0 where
  pub number : ℕ
  pub inside : number < length class
  pub member : slice_index class number ≡ k
  pub is : slice_index counts number ≡ key

-- and it is the least
pub record IsLeastKey (class counts : List ℕ) (k key : ℕ) : Type 0 where
  pub attained : IsKey class counts k key
  pub least : (p : ℕ) → p < length class → slice_index class p ≡ k → key ≤ slice_index counts p

-- the least count above one
pub record IsNext (counts : List ℕ) (key next : ℕ) : Type 0 where
  pub above : key < next
  pub number : ℕ
  pub inside : number < length counts
  pub is : slice_index counts number ≡ next
  pub least : (p : ℕ) → key < slice_index counts p → next ≤ slice_index counts p

-- the least count above one, found so far, and one more count
abbrev pub nearer_of : Option ℕ → ℕ → ℕ → Option ℕ
nearer_of None key other = if nat_lt key other then Some other else None
nearer_of (Some least) key other = if nat_lt key other && nat_lt other least then Some other else Some least
