-- The table of the products of two classes, and the masks of the closed sets.
use Rattle.std.specs.Prelude.{◌≡◌, nat_lt, ℕ, ◌*◌, ◌/◌, ◌%◌, ◌<◌, Bool, List, length, map, slice_index, All}
use Rattle.pair_colours.specs.Colouring.{PairColouring}
use Rattle.pair_colours.specs.ClosedSet.{ClosedSets}
use Rattle.pair_colours.specs.Naming.{rank_of}
use Rattle.pair_colours.specs.IntersectionNumber.{intersection_number}
use Rattle.visitors.specs.Entries.{IsEntry}
use Rattle.visitors.specs.Masks.{members_of, HasBits}

-- whether p(i, j; k) is not 0
abbrev pub is_product : PairColouring → ℕ → ℕ → ℕ → Bool
is_product K i j k = nat_lt 0 (intersection_number K i j k)

-- at place i * rank + j the table has the mask of the classes k for which p(i, j; k) is not 0
pub record AreProducts (K : PairColouring) (table : List ℕ) : Type 0 where
  pub len : length table ≡ rank_of K * rank_of K
  pub each : (p : ℕ) → p < rank_of K * rank_of K → HasBits (rank_of K) (slice_index table p) (is_product K (p / rank_of K) (p % rank_of K))

-- the masks are those of all closed sets, rising
pub record AreClosedMasks (K : PairColouring) (masks : List ℕ) : Type 0 where
  pub sets : ClosedSets K (map (members_of (rank_of K)) masks)
  pub entries : All (λ mask. IsEntry (members_of (rank_of K) mask)) masks
