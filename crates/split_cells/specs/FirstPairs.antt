-- Pairs against the first pair of their class.
use Rattle.std.specs.Prelude.{◌≡◌, ◌==◌, ℕ, ◌/◌, ◌%◌, slice_index, if◌then◌else◌}
use Rattle.split_cells.specs.declared.classed_pairs.ClassedPairs.{ClassedPairs}
use Rattle.split_cells.specs.Segments.{class_at, first_of}
use Rattle.split_cells.specs.Pairs.{fibre_of}

-- the first pair of the class of the pair at place p
abbrev pub first_beside : ClassedPairs → ℕ → ℕ
first_beside pairs p = first_of pairs.parting (class_at pairs.parting p)

-- key 1 off the diagonal
abbrev pub diagonal_of : ClassedPairs → ℕ → ℕ
diagonal_of pairs p = if p / pairs.size == p % pairs.size then 0 else 1

-- the pair is on the diagonal where the first of its class is, and the transposed pairs are in one class
pub record IsLikeFirst (pairs : ClassedPairs) (p : ℕ) : Type 0 where
  pub diagonal : diagonal_of pairs p ≡ diagonal_of pairs (first_beside pairs p)
  pub turned : slice_index pairs.turned.items p ≡ slice_index pairs.turned.items (first_beside pairs p)

-- the pair comes from the fibre of the first
abbrev pub IsHomeOfFirst : ClassedPairs → ℕ → Type 0
IsHomeOfFirst pairs p = fibre_of pairs (first_beside pairs p / pairs.size) ≡ fibre_of pairs (p / pairs.size)
