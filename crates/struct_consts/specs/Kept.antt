-- What the program keeps of each class.
use Rattle.std.specs.Prelude.{◌≡◌, ℕ, ◌<◌, List, length, Option, Some, None, slice_index_or}
use Rattle.pair_colours.specs.Colouring.{PairColouring, FitsColouring}
use Rattle.pair_colours.specs.Naming.{rank_of, first_pair_of, transpose_of}
use Rattle.triangle_count.specs.Row.{IsRowAt}
use Rattle.struct_consts.specs.ClassData.{IsConfiguration, valency_of, class_size, fibres_of}
use Rattle.struct_consts.specs.declared.classes.Class.{Class}

-- the data of class k
pub record IsClassData (K : PairColouring) (k : ℕ) (c : Class) : Type 0 where
  pub pair : first_pair_of K k ≡ Some c.pair
  pub transpose : transpose_of K k ≡ Some c.transpose
  pub valency : c.valency ≡ valency_of K k
  pub size : c.size ≡ class_size K k
  pub fibres : c.fibres ≡ fibres_of K k
  pub row : IsRowAt K c.pair.0 c.pair.1 c.row.items

-- the data of the classes before the n-th
abbrev pub IsDataBefore : PairColouring → ℕ → List Class → Type 0
IsDataBefore K n classes = (k : ℕ) (d : Class) → k < n → IsClassData K k (slice_index_or classes k d)

-- a configuration within the limit of points, and the data of all its classes in their order
pub record IsConstants (K : PairColouring) (classes : List Class) : Type 0 where
  pub fits : FitsColouring K
  pub configuration : IsConfiguration K
  pub rank : length classes ≡ rank_of K
  pub data_of_each : IsDataBefore K (length classes) classes

-- the first pair of each class before the n-th
pub record HasFirstPairs (K : PairColouring) (n : ℕ) (pairs : List (Option (ℕ × ℕ))) : Type 0 where
  pub len : length pairs ≡ n
  pub each : (k : ℕ) → k < n → slice_index_or pairs k None ≡ first_pair_of K k

-- the number of pairs of each class before the n-th
pub record HasSizes (K : PairColouring) (n : ℕ) (sizes : List ℕ) : Type 0 where
  pub len : length sizes ≡ n
  pub each : (k : ℕ) → k < n → slice_index_or sizes k 0 ≡ class_size K k
