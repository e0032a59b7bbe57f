-- What the tables of the search hold.
use Rattle.std.specs.Prelude.{◌≡◌, ◌≢◌, ◌==◌, ◌&&◌, ◌⊎◌, ◌+◌, ◌*◌, ◌/◌, ◌%◌, ◌<◌, ◌≤◌, ℕ, List, length, slice_index, count_by}
use Rattle.pair_colours.specs.Colouring.{points}
use Rattle.pair_colours.specs.declared.coloured_pairs.TheConstants.{MOST_POINTS}
use Rattle.drg_arrays.specs.declared.levels.TheConstants.{UNREACHED}
use Rattle.drg_arrays.specs.Graph.{Graph, is_edge, IsEdge}
use Rattle.drg_arrays.specs.Distance.{HasWalk, IsDistance}

-- what the program keeps as a graph: 1 to 256 points, and whether each pair is an edge
pub record FitsGraph (G : Graph) : Type 0 where
  pub has_points : 1 ≤ G.size
  pub limit : G.size ≤ MOST_POINTS
  pub has_pairs : length G.edges ≡ G.size * G.size

-- the point y is reached from a point at the level, and is put at the next one
pub record IsMarked (G : Graph) (old new : List ℕ) (level y : ℕ) : Type 0 where
  pub w : ℕ
  pub row : w < G.size
  pub from_level : slice_index old w ≡ level
  pub joined : IsEdge G w y
  pub is : slice_index new y ≡ level + 1

-- the neighbours of the points below `end` at the level are put at the next one, where they had none
pub record IsNextLevel (G : Graph) (old new : List ℕ) (level end : ℕ) : Type 0 where
  pub kept : (y : ℕ) → y < G.size → slice_index old y ≢ UNREACHED → slice_index new y ≡ slice_index old y
  pub left : (y : ℕ) → y < G.size → slice_index old y ≡ UNREACHED → (slice_index new y ≡ UNREACHED) ⊎ IsMarked G old new level y
  pub marked : (w y : ℕ) → w < end → w < G.size → y < G.size → slice_index old w ≡ level → IsEdge G w y → slice_index new y ≢ UNREACHED

-- how many points have no level
abbrev pub unreached_count : List ℕ → ℕ
unreached_count levels = count_by (λ level. level == UNREACHED) levels

-- d is the distance from x to y, or UNREACHED where no walk leads from x to y
pub record IsDistanceEntry (G : Graph) (x y d : ℕ) : Type 0 where
  pub reached : d ≢ UNREACHED → IsDistance G x y d
  pub small : d ≢ UNREACHED → d < G.size
  pub unreached : d ≡ UNREACHED → ¬ HasWalk G x y

-- the distances from x
pub record IsDistanceRow (G : Graph) (x : ℕ) (row : List ℕ) : Type 0 where
  pub len : length row ≡ G.size
  pub entries : (y : ℕ) → y < G.size → IsDistanceEntry G x y (slice_index row y)

-- the distances from each point below `end`, row by row
pub record IsDistanceTable (G : Graph) (table : List ℕ) (end : ℕ) : Type 0 where
  pub len : length table ≡ end * G.size
  pub entries : (x y : ℕ) → x < end → y < G.size → IsDistanceEntry G x y (slice_index table (x * G.size + y))

-- the distances of all pairs of a connected graph, row by row
pub record AreDistances (G : Graph) (table : List ℕ) : Type 0 where
  pub len : length table ≡ G.size * G.size
  pub is : (x y : ℕ) → x < G.size → y < G.size → IsDistance G x y (slice_index table (x * G.size + y))
  pub small : (p : ℕ) → p < length table → slice_index table p < G.size

-- how many neighbours of v the table has at the distance just below `end` from u
abbrev pub neighbour_count : Graph → List ℕ → ℕ → ℕ → ℕ → ℕ
neighbour_count G table u v end = count_by (λ w. is_edge G v w && (slice_index table (u * G.size + w) + 1 == end)) (points G.size)

-- for each pair (u, v), row by row: how many neighbours of v are one step nearer to u than v is, and how many one step farther
pub record AreCounts (G : Graph) (table nearer farther : List ℕ) : Type 0 where
  pub nearer_len : length nearer ≡ G.size * G.size
  pub farther_len : length farther ≡ G.size * G.size
  pub nearer_is : (p : ℕ) → p < G.size * G.size → slice_index nearer p ≡ neighbour_count G table (p / G.size) (p % G.size) (slice_index table p)
  pub farther_is : (p : ℕ) → p < G.size * G.size → slice_index farther p ≡ neighbour_count G table (p / G.size) (p % G.size) (slice_index table p + 2)

-- q is the first place with the number that stands at p
pub record IsFirstPlace (xs : List ℕ) (p q : ℕ) : Type 0 where
  pub within : q < length xs
  pub same : slice_index xs q ≡ slice_index xs p
  pub first : (k : ℕ) → k < length xs → slice_index xs k ≡ slice_index xs p → q ≤ k

-- firsts has the first place of each number of xs
pub record AreFirstPlaces (xs firsts : List ℕ) : Type 0 where
  pub at : (p : ℕ) → p < length xs → IsFirstPlace xs p (slice_index firsts (slice_index xs p))

-- the counts at p are those at the first place with the same distance
abbrev pub IsAlikeAt : List ℕ → List ℕ → List ℕ → List ℕ → ℕ → Type 0
IsAlikeAt table firsts nearer farther p =
    (slice_index nearer p ≡ slice_index nearer (slice_index firsts (slice_index table p)))
    × (slice_index farther p ≡ slice_index farther (slice_index firsts (slice_index table p)))

-- p is the first place whose counts are not those
pub record IsFirstUnlike (table firsts nearer farther : List ℕ) (p : ℕ) : Type 0 where
  pub within : p < length table
  pub unlike : ¬ IsAlikeAt table firsts nearer farther p
  pub before : (k : ℕ) → k < p → IsAlikeAt table firsts nearer farther k
