-- The structure constants of a coherent configuration.
use Rattle.std.specs.Prelude.{ℕ, unwrap_or}
use Rattle.pair_colours.specs.Colouring.{PairColouring, triangles}
use Rattle.pair_colours.specs.Naming.{first_pair_of}

-- the first pair of class k
abbrev pub pair_of_class : PairColouring → ℕ → ℕ × ℕ
pair_of_class K k = unwrap_or (first_pair_of K k) (0, 0)

-- Higman's intersection number p(i, j; k): over the first pair (x, y) of class k,
-- how many points z have (x, z) in class i and (z, y) in class j
abbrev pub intersection_number : PairColouring → ℕ → ℕ → ℕ → ℕ
intersection_number K i j k = triangles K (pair_of_class K k).0 (pair_of_class K k).1 i j
