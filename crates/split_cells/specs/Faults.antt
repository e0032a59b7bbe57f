-- Steps that are not idle, and what it takes that there is none.
use Rattle.std.specs.Prelude.{◌≡◌, ◌≢◌, ◌==◌, ◌&&◌, ℕ, ◌*◌, ◌<◌, ◌≤◌, All, count_by, slice_index}
use Rattle.pair_colours.specs.Colouring.{PairColouring, colour_at, points}
use Rattle.trace_text.specs.declared.step_list.Step.{Step}
use Rattle.trace_text.specs.Split.{numbers_of}
use Rattle.split_cells.specs.Keys.{class_of, key_at}

-- the numbers that the step names are below the rank
abbrev pub NamesBelow : ℕ → Step → Type 0
NamesBelow rank step = All (λ number. number < rank) (numbers_of step)

-- the step parts two pairs of its class
pub record SplitsTwo (P : PairColouring) (rank : ℕ) (step : Step) : Type 0 where
  pub names : NamesBelow rank step
  pub first : ℕ
  pub second : ℕ
  pub first_in : first < P.size * P.size
  pub second_in : second < P.size * P.size
  pub first_class : slice_index P.colours first ≡ class_of step
  pub second_class : slice_index P.colours second ≡ class_of step
  pub apart : key_at P step first ≢ key_at P step second

-- no class holds both a diagonal and an off-diagonal pair, and the transposed pairs of a class are in one class
pub record IsSettled (P : PairColouring) : Type 0 where
  pub diagonal : (x u v : ℕ) → x < P.size → u < P.size → v < P.size → colour_at P x x ≡ colour_at P u v → u ≡ v
  pub turned : (x y u v : ℕ) → x < P.size → y < P.size → u < P.size → v < P.size → colour_at P x y ≡ colour_at P u v → colour_at P y x ≡ colour_at P v u

-- the pairs of a class come from points of one fibre
pub record HasHomes (P : PairColouring) : Type 0 where
  pub home : (x y u v : ℕ) → x < P.size → y < P.size → u < P.size → v < P.size → colour_at P x y ≡ colour_at P u v → colour_at P x x ≡ colour_at P u u

-- at how many points z the pair from x has the colour i, and that from y the colour j
abbrev pub row_pairs : PairColouring → ℕ → ℕ → ℕ → ℕ → ℕ
row_pairs P x y i j = count_by (λ z. (colour_at P x z == i) && (colour_at P y z == j)) (points P.size)

-- the rows from the points of each pair of class k have the same pairs of colours
pub record HasLikeRows (P : PairColouring) (k : ℕ) : Type 0 where
  pub like : (x y u v : ℕ) → x < P.size → y < P.size → u < P.size → v < P.size → colour_at P x y ≡ k → colour_at P u v ≡ k
      → (i j : ℕ) → row_pairs P x y i j ≡ row_pairs P u v i j

-- so have those of one of a class and its transposed class
abbrev pub HasLikeRowsOnce : PairColouring → ℕ → Type 0
HasLikeRowsOnce P k = ((x y : ℕ) → x < P.size → y < P.size → colour_at P x y ≡ k → k ≤ colour_at P y x) → HasLikeRows P k
