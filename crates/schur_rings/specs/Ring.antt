-- Cayley colourings and Schur rings (Wielandt, Finite Permutation Groups, 1964, chapter 4).
use Rattle.std.specs.Prelude.{◌≡◌, ℕ, ◌*◌, ◌/◌, ◌%◌, List, length, map, slice_index}
use Rattle.pair_colours.specs.Colouring.{PairColouring, points}
use Rattle.pair_colours.specs.Closure.{IsClosureOf}
use Rattle.pair_colours.specs.Naming.{first_met}
use Rattle.schur_rings.specs.Group.{quotient}

-- the Cayley colouring of a colouring f of the elements: the pair (x, y) has the colour of x^-1 y
abbrev pub cayley : PairColouring → List ℕ → PairColouring
cayley T f = record { size = T.size; colours = map (λ p. slice_index f (quotient T (p / T.size) (p % T.size))) (points (T.size * T.size)) }

-- g is the closure of f on the elements: its Cayley colouring is the closure of that of f
pub record RingOf (T : PairColouring) (f g : List ℕ) : Type 0 where
  pub len : length g ≡ T.size
  pub closure : IsClosureOf (cayley T g) (cayley T f)

-- how many basic sets a ring has: the different numbers of its list
abbrev pub basic_set_count : List ℕ → ℕ
basic_set_count g = length (first_met g)
