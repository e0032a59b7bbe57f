-- Steps, each of which parts a cell by the number of arcs into a cell.
use Rattle.std.specs.Prelude.{◌≡◌, ◌==◌, nat_lt, ℕ, ◌+◌, ◌-◌, ◌<◌, ◌≤◌, List, [], ◌∷◌, length, map, filter, count_by, slice_index, if◌then◌else◌, ⊤}
use Rattle.pair_colours.specs.Colouring.{PairColouring, points}
use Rattle.pair_colours.specs.Naming.{first_met}
use Rattle.equitable.specs.declared.cell_steps.CellStep.{CellStep}
use Rattle.equitable.specs.Equitable.{arcs_into, cell_count}

-- the different keys of the points in cell c, where the point x has the key `key x`
abbrev pub keys_in : List ℕ → ℕ → (ℕ → ℕ) → List ℕ
keys_in W c key = first_met (map key (filter (λ x. slice_index W x == c) (points (length W))))

-- the number of the part of cell c that has so many parts before it: the first keeps c, and the next ones get the numbers after those of the cells
abbrev pub part_number : List ℕ → ℕ → ℕ → ℕ
part_number W c before = if before == 0 then c else cell_count W + (before - 1)

-- W with cell c parted by the keys, its parts in rising order of their keys, and all other points where they were
abbrev pub parted_by : List ℕ → ℕ → (ℕ → ℕ) → List ℕ
parted_by W c key =
    map (λ x. if slice_index W x == c then part_number W c (count_by (λ other. nat_lt other (key x)) (keys_in W c key)) else slice_index W x) (points (length W))

-- the key of a point for a step: how many arcs lead from it into the cell that the step names second
abbrev pub key_of : PairColouring → List ℕ → CellStep → ℕ → ℕ
key_of G W s x = arcs_into G W x s.into

-- what the step makes of W
abbrev pub split_of : PairColouring → List ℕ → CellStep → List ℕ
split_of G W s = parted_by W s.cell (key_of G W s)

-- the step names two cells that are there
pub record NamesCells (W : List ℕ) (s : CellStep) : Type 0 where
  pub cell : s.cell < cell_count W
  pub into : s.into < cell_count W

-- the cell has two parts at least; otherwise the step is idle
abbrev pub HasParts : PairColouring → List ℕ → CellStep → Type 0
HasParts G W s = 2 ≤ length (keys_in W s.cell (key_of G W s))

-- the step may be made on W
pub record IsAllowed (G : PairColouring) (W : List ℕ) (s : CellStep) : Type 0 where
  pub names : NamesCells W s
  pub parts : HasParts G W s

-- the steps may be made one after the other, from W on
abbrev pub AreAllowed : PairColouring → List ℕ → List CellStep → Type 0
AreAllowed G W [] = ⊤
AreAllowed G W (s ∷ steps) = IsAllowed G W s × AreAllowed G (split_of G W s) steps

-- the partition after the steps
abbrev pub cells_after : PairColouring → List ℕ → List CellStep → List ℕ
cells_after G W [] = W
cells_after G W (s ∷ steps) = cells_after G (split_of G W s) steps

-- the steps may be made one after the other, and lead from W to X
pub record HasFollowed (G : PairColouring) (W X : List ℕ) (steps : List CellStep) : Type 0 where
  pub points : length X ≡ G.size
  pub led : X ≡ cells_after G W steps
  pub allowed : AreAllowed G W steps
