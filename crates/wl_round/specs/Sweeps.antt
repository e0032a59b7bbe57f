-- The classes of a colouring, swept for pairs that are not alike in another.
use Rattle.std.specs.Prelude.{◌≡◌, ◌≢◌, ℕ, ◌+◌, ◌*◌, ◌<◌, ◌≤◌, Bool, true, false, List, length, slice_index}
use Rattle.pair_colours.specs.Colouring.{PairColouring, colour_at}
use Rattle.pair_colours.specs.Rounds.{Alike}
use Rattle.wl_round.specs.Comparing.{AlikeAt}

-- the number at the place that stands at a
abbrev pub number_by : List ℕ → List ℕ → ℕ → ℕ
number_by numbers places a = slice_index numbers (slice_index places a)

-- each place of a list once, in the order of the numbers there
pub record ArePlacesBy (numbers places : List ℕ) : Type 0 where
  pub inside : (a : ℕ) → a < length places → slice_index places a < length numbers
  pub rising : (a b : ℕ) → a < b → b < length places → number_by numbers places a ≤ number_by numbers places b
  pub distinct : (a b : ℕ) → a < length places → b < length places → slice_index places a ≡ slice_index places b → a ≡ b
  pub complete : (p : ℕ) → p < length numbers → (a : ℕ) × (a < length places) × (slice_index places a ≡ p)

-- the places from start up to end are those of one number, from the first on
pub record IsRun (numbers places : List ℕ) (start end : ℕ) : Type 0 where
  pub some : start < end
  pub within : end ≤ length places
  pub one : (a : ℕ) → start ≤ a → a < end → number_by numbers places a ≡ number_by numbers places start
  pub rest : (a : ℕ) → end ≤ a → a < length places → number_by numbers places a ≢ number_by numbers places start

-- two of these places have different marks
pub record HasTwoMarks (members marks : List ℕ) : Type 0 where
  pub first : ℕ
  pub second : ℕ
  pub first_in : first < length members
  pub second_in : second < length members
  pub differ : slice_index marks (slice_index members first) ≢ slice_index marks (slice_index members second)

-- of these places, those of pairs that are alike have one mark; `two` tells whether there are two marks; all other places are as they were
pub record IsRunMarked (P : PairColouring) (members old new : List ℕ) (two : Bool) : Type 0 where
  pub others : (p : ℕ) → ((a : ℕ) → a < length members → slice_index members a ≢ p) → slice_index new p ≡ slice_index old p
  pub together : (a b : ℕ) → a < length members → b < length members → AlikeAt P (slice_index members a) (slice_index members b)
      → slice_index new (slice_index members a) ≡ slice_index new (slice_index members b)
  pub all : two ≡ false → (a b : ℕ) → a < length members → b < length members → AlikeAt P (slice_index members a) (slice_index members b)
  pub some : two ≡ true → HasTwoMarks members new

-- two places of one number with different marks
pub record IsParted (numbers marks : List ℕ) : Type 0 where
  pub first : ℕ
  pub second : ℕ
  pub first_in : first < length numbers
  pub second_in : second < length numbers
  pub same : slice_index numbers first ≡ slice_index numbers second
  pub differ : slice_index marks first ≢ slice_index marks second

-- of the pairs of one class, those that are alike have one mark; `two` tells whether a class has two marks
pub record AreMarks (P : PairColouring) (numbers marks : List ℕ) (two : Bool) : Type 0 where
  pub together : (p q : ℕ) → p < length numbers → q < length numbers → slice_index numbers p ≡ slice_index numbers q → AlikeAt P p q → slice_index marks p ≡ slice_index marks q
  pub all : two ≡ false → (p q : ℕ) → p < length numbers → q < length numbers → slice_index numbers p ≡ slice_index numbers q → AlikeAt P p q
  pub some : two ≡ true → IsParted numbers marks

-- the pairs from x have the colours of a list, and the others are as they were
pub record IsRowListed (colours : List ℕ) (x : ℕ) (old new : PairColouring) : Type 0 where
  pub size : new.size ≡ old.size
  pub row : (y : ℕ) → y < old.size → colour_at new x y ≡ slice_index colours (x * old.size + y)
  pub others : (u v : ℕ) → u < old.size → v < old.size → u ≢ x → colour_at new u v ≡ colour_at old u v

-- pairs of one class of M are alike in P
pub record AllAlike (P M : PairColouring) : Type 0 where
  pub alike : (x y u v : ℕ) → x < P.size → y < P.size → u < P.size → v < P.size → colour_at M x y ≡ colour_at M u v → Alike P x y u v

-- c parts two pairs of one class of M, and no two that are alike in P
pub record IsParting (P M c : PairColouring) : Type 0 where
  pub sizes : c.size ≡ P.size
  pub together : (x y u v : ℕ) → x < P.size → y < P.size → u < P.size → v < P.size → colour_at M x y ≡ colour_at M u v → Alike P x y u v → colour_at c x y ≡ colour_at c u v
  pub x : ℕ
  pub y : ℕ
  pub u : ℕ
  pub v : ℕ
  pub first_row : x < P.size
  pub first_column : y < P.size
  pub second_row : u < P.size
  pub second_column : v < P.size
  pub same : colour_at M x y ≡ colour_at M u v
  pub differ : colour_at c x y ≢ colour_at c u v
