-- Paths along the pairs of one class, and the search that finds the points that they reach from point 0.
use Rattle.std.specs.Prelude.{◌≡◌, ◌⊎◌, ℕ, suc, zero, ◌+◌, ◌<◌, ◌≤◌, Bool, true, false, not, List, length, slice_index_or, count_by, All, Contains}
use Rattle.pair_colours.specs.Colouring.{PairColouring, colour_at}

-- a step between two points, along a pair of the class or against it
abbrev pub Step : PairColouring → ℕ → ℕ → ℕ → Type 0
Step K c x y = (colour_at K x y ≡ c) ⊎ (colour_at K y x ≡ c)

-- a path of so many steps
abbrev pub Path : PairColouring → ℕ → ℕ → ℕ → ℕ → Type 0
Path K c zero x y = x ≡ y
Path K c (suc m) x y = (z : ℕ) × (z < K.size) × Path K c m x z × Step K c z y

-- some path
abbrev pub Joined : PairColouring → ℕ → ℕ → ℕ → Type 0
Joined K c x y = (m : ℕ) × Path K c m x y

-- whether a point is marked
abbrev pub mark_at : List Bool → ℕ → Bool
mark_at marks y = slice_index_or marks y false

-- the marked points are those that a path joins to point 0
pub record MarksReached (K : PairColouring) (c : ℕ) (marks : List Bool) : Type 0 where
  pub len : length marks ≡ K.size
  pub sound : (y : ℕ) → y < K.size → mark_at marks y ≡ true → Joined K c 0 y
  pub complete : (y : ℕ) → y < K.size → Joined K c 0 y → mark_at marks y ≡ true

-- a search at work: point 0 and only points that it reaches are marked, and the points that wait are marked
pub record IsSearch (K : PairColouring) (c : ℕ) (marks : List Bool) (waiting : List ℕ) : Type 0 where
  pub len : length marks ≡ K.size
  pub start : mark_at marks 0 ≡ true
  pub sound : (y : ℕ) → y < K.size → mark_at marks y ≡ true → Joined K c 0 y
  pub wait : All (λ a. (a < K.size) × (mark_at marks a ≡ true)) waiting

-- each step from a marked point that does not wait leads to a marked point
pub record IsSpread (K : PairColouring) (c : ℕ) (marks : List Bool) (waiting : List ℕ) : Type 0 where
  pub search : IsSearch K c marks waiting
  pub onward : (a b : ℕ) → a < K.size → b < K.size → mark_at marks a ≡ true → Step K c a b → (mark_at marks b ≡ true) ⊎ Contains waiting a

-- the same but for the steps from x to points from y on
pub record IsSpreadTo (K : PairColouring) (c x y : ℕ) (marks : List Bool) (waiting : List ℕ) : Type 0 where
  pub search : IsSearch K c marks waiting
  pub point : x < K.size
  pub marked : mark_at marks x ≡ true
  pub onward : (a b : ℕ) → a < K.size → b < K.size → mark_at marks a ≡ true → Step K c a b
      → (mark_at marks b ≡ true) ⊎ (Contains waiting a ⊎ ((a ≡ x) × (y ≤ b)))

-- how much is left to do: the points that are not marked, and those that wait
abbrev pub work_left : List Bool → List ℕ → ℕ
work_left marks waiting = count_by not marks + length waiting
