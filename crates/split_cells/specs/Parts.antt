-- A class parted by the counts of its pairs.
use Rattle.std.specs.Prelude.{◌≡◌, ◌≢◌, ◌==◌, nat_lt, ℕ, ◌+◌, ◌-◌, ◌<◌, List, length, count_by, slice_index, if◌then◌else◌}
use Rattle.split_cells.specs.Keys.{counts_in}

-- the number of the part of class k that has so many parts before it, where r numbers are taken
abbrev pub part_from : ℕ → ℕ → ℕ → ℕ
part_from r k before = if before == 0 then k else r + (before - 1)

-- how many of the different counts of the pairs of class k are below one
abbrev pub smaller_counts : ℕ → List ℕ → List ℕ → ℕ → ℕ → ℕ
smaller_counts size class counts k key = count_by (λ other. nat_lt other key) (counts_in size class counts k)

-- the parts of class k by rising count: the first keeps k, and the others have the numbers from r on
pub record IsParted (size : ℕ) (class counts : List ℕ) (k r : ℕ) (new : List ℕ) : Type 0 where
  pub len : length new ≡ length class
  pub others : (p : ℕ) → p < length class → slice_index class p ≢ k → slice_index new p ≡ slice_index class p
  pub parts : (p : ℕ) → p < length class → slice_index class p ≡ k
      → slice_index new p ≡ part_from r k (smaller_counts size class counts k (slice_index counts p))
