-- Short numbers of classes, by which the rows from two points are compared.
use Rattle.std.specs.Prelude.{◌≡◌, ◌≢◌, ◌==◌, ℕ, ◌+◌, ◌*◌, ◌/◌, ◌<◌, List, length, count_by, slice_index}
use Rattle.pair_colours.specs.Colouring.{PairColouring, colour_at, points}
use Rattle.split_cells.specs.declared.classed_pairs.ClassedPairs.{ClassedPairs}
use Rattle.split_cells.specs.declared.codes.Codes.{Codes}
use Rattle.split_cells.specs.Segments.{class_at}
use Rattle.split_cells.specs.Pairs.{fibre_of, lead_of}

-- each pair has a short number
pub record IsCodeTable (size : ℕ) (codes : Codes) : Type 0 where
  pub lefts : length codes.lefts.items ≡ size * size
  pub rights : length codes.rights.items ≡ size * size

-- short has for each class in the row of the first point of a fibre a place where it stands there, and no number is above the points
pub record IsShort (pairs : ClassedPairs) (short : List ℕ) : Type 0 where
  pub low : (k : ℕ) → slice_index short k < pairs.size
  pub stands : (x z : ℕ) → x < pairs.size → z < pairs.size → lead_of pairs (fibre_of pairs x) ≡ x
      → class_at pairs.parting (x * pairs.size + slice_index short (class_at pairs.parting (x * pairs.size + z))) ≡ class_at pairs.parting (x * pairs.size + z)

-- of the classes, those in the row from x have got places where they stand there, and the others are as they were
pub record IsShortened (pairs : ClassedPairs) (x : ℕ) (old new : List ℕ) : Type 0 where
  pub low : (k : ℕ) → slice_index old k < pairs.size → slice_index new k < pairs.size
  pub stands : (z : ℕ) → z < pairs.size → class_at pairs.parting (x * pairs.size + slice_index new (class_at pairs.parting (x * pairs.size + z))) ≡ class_at pairs.parting (x * pairs.size + z)
  pub others : (k : ℕ) → ((z : ℕ) → z < pairs.size → class_at pairs.parting (x * pairs.size + z) ≢ k) → slice_index new k ≡ slice_index old k

-- the first t pairs have the short numbers of their classes, which stand there in the row of the first point of the fibre
pub record IsCodedTo (pairs : ClassedPairs) (short : List ℕ) (t : ℕ) (codes : Codes) : Type 0 where
  pub table : IsCodeTable pairs.size codes
  pub right : (p : ℕ) → p < t → slice_index codes.rights.items p ≡ slice_index short (class_at pairs.parting p)
  pub left : (p : ℕ) → p < t → slice_index codes.lefts.items p ≡ slice_index short (class_at pairs.parting p) * pairs.size
  pub known : (p : ℕ) → p < t
      → class_at pairs.parting (lead_of pairs (fibre_of pairs (p / pairs.size)) * pairs.size + slice_index short (class_at pairs.parting p)) ≡ class_at pairs.parting p

-- the code over z of the rows from x and from y
abbrev pub code_over : ℕ → Codes → ℕ → ℕ → ℕ → ℕ
code_over size codes x y z = slice_index codes.lefts.items (x * size + z) + slice_index codes.rights.items (y * size + z)

-- over how many points the rows have this code
abbrev pub code_count : ℕ → Codes → ℕ → ℕ → ℕ → ℕ
code_count size codes x y code = count_by (λ z. code_over size codes x y z == code) (points size)

-- codes below the number of pairs: they tell the classes in the row from x among those from its fibre, and those in the row from y among those from its fibre
pub record IsCoded (P : PairColouring) (codes : Codes) : Type 0 where
  pub table : IsCodeTable P.size codes
  pub low : (x y z : ℕ) → x < P.size → y < P.size → z < P.size → code_over P.size codes x y z < P.size * P.size
  pub same : (x y u v z w : ℕ) → x < P.size → y < P.size → u < P.size → v < P.size → z < P.size → w < P.size
      → colour_at P x z ≡ colour_at P u w → colour_at P y z ≡ colour_at P v w → code_over P.size codes x y z ≡ code_over P.size codes u v w
  pub left : (x y u v z w : ℕ) → x < P.size → y < P.size → u < P.size → v < P.size → z < P.size → w < P.size
      → colour_at P x x ≡ colour_at P u u → code_over P.size codes x y z ≡ code_over P.size codes u v w → colour_at P x z ≡ colour_at P u w
  pub right : (x y u v z w : ℕ) → x < P.size → y < P.size → u < P.size → v < P.size → z < P.size → w < P.size
      → colour_at P y y ≡ colour_at P v v → code_over P.size codes x y z ≡ code_over P.size codes u v w → colour_at P y z ≡ colour_at P v w
