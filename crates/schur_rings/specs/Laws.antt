-- What holds of the closures on the elements of all groups.
use Rattle.std.specs.Prelude.{◌≡◌, ◌⊎◌, ℕ, List, length, map}
use Rattle.pair_colours.specs.Colouring.{PairColouring, IsColouring, colour_at, points}
use Rattle.pair_colours.specs.Closure.{IsClosureOf}
use Rattle.schur_rings.specs.Group.{IsGroup}
use Rattle.colour_wl.specs.GrowthStrings.{IsGrowth, next_number}
use Rattle.schur_rings.specs.Ring.{RingOf, basic_set_count, cayley}

-- a colouring is the table of a group, or it is not
abbrev pub GroupOrNot : Type 0
GroupOrNot = (T : PairColouring) → IsColouring T → IsGroup T ⊎ ¬ IsGroup T

-- the colours of the pairs (0, 0), (0, 1) and so on
abbrev pub first_row : PairColouring → List ℕ
first_row K = map (colour_at K 0) (points K.size)

-- a number for each element has a closure on the elements
abbrev pub RingExists : Type 0
RingExists = (T : PairColouring) (f : List ℕ) → IsGroup T → length f ≡ T.size → (g : List ℕ) × RingOf T f g

-- and only one
abbrev pub RingIsUnique : Type 0
RingIsUnique = (T : PairColouring) (f g h : List ℕ) → IsGroup T → length f ≡ T.size → RingOf T f g → RingOf T f h → g ≡ h

-- and that is row 0 of the closure of the Cayley colouring
abbrev pub RingIsFirstRow : Type 0
RingIsFirstRow = (T K : PairColouring) (f g : List ℕ) → IsGroup T → length f ≡ T.size → RingOf T f g → IsClosureOf K (cayley T f) → g ≡ first_row K

-- the numbers of a growth string are those below the least above all of them, so that is how many are different
abbrev pub GrowthCounts : Type 0
GrowthCounts = (n : ℕ) (g : List ℕ) → IsGrowth n g → basic_set_count g ≡ next_number g
