-- The numbers of the parts of classes in a round, as far as the naming walk has met them.
use Rattle.std.specs.Prelude.{◌≡◌, ◌↔◌, nat_lt, Bool, true, false, ℕ, ◌+◌, ◌<◌, ◌≢◌, List, length, count_by, slice_index, slice_index_or}
use Rattle.pair_colours.specs.Colouring.{PairColouring, colour_at}
use Rattle.pair_colours.specs.Naming.{rank_of}
use Rattle.pair_colours.specs.Rounds.{first_alike}
use Rattle.trace_text.specs.declared.step_list.Step.TheVariants.{Round}
use Rattle.trace_text.specs.Split.{later_keys, split_of}

-- a pair of the class has its first alike pair before a place of the walk
pub record IsReached (P : PairColouring) (place class : ℕ) : Type 0 where
  pub x : ℕ
  pub y : ℕ
  pub row : x < P.size
  pub column : y < P.size
  pub is : colour_at P x y ≡ class
  pub first : first_alike P x y < place

-- of a round with the classes R: the parts that the walk meets before a place have their numbers, by their R-colours;
-- the classes met are marked as seen; and the next new number comes after those of the later parts met
pub record IsShownTo (P R : PairColouring) (numbers : List ℕ) (seen : List Bool) (fresh place : ℕ) : Type 0 where
  pub met : (x y : ℕ) → x < P.size → y < P.size → (colour_at R x y < length numbers) ↔ (first_alike P x y < place)
  pub shown : (x y : ℕ) → x < P.size → y < P.size → colour_at R x y < length numbers → slice_index numbers (colour_at R x y) ≡ colour_at (split_of P Round) x y
  pub classes : length seen ≡ rank_of P
  pub reached : (class : ℕ) → class < rank_of P → (slice_index_or seen class false ≡ true) ↔ IsReached P place class
  pub next : fresh ≡ rank_of P + count_by (λ other. nat_lt other place) (later_keys P (first_alike P))

-- each pair has a number, by its R-colour, which is its class after the round
pub record IsShown (P R : PairColouring) (numbers : List ℕ) : Type 0 where
  pub inside : (x y : ℕ) → x < P.size → y < P.size → colour_at R x y < length numbers
  pub is : (x y : ℕ) → x < P.size → y < P.size → slice_index numbers (colour_at R x y) ≡ colour_at (split_of P Round) x y

-- the pairs from x have the numbers of their R-colours, and the others are as they were
pub record IsRowShown (R : PairColouring) (numbers : List ℕ) (x : ℕ) (old new : PairColouring) : Type 0 where
  pub size : new.size ≡ old.size
  pub len : length new.colours ≡ length old.colours
  pub row : (y : ℕ) → y < R.size → colour_at new x y ≡ slice_index numbers (colour_at R x y)
  pub others : (u v : ℕ) → u < R.size → v < R.size → u ≢ x → colour_at new u v ≡ colour_at old u v
