-- What the steps to a quotient and to a subscheme make.
use Rattle.std.specs.Prelude.{◌≡◌, ℕ, ◌<◌, ◌≤◌, Bool, List, length, slice_index}
use Rattle.pair_colours.specs.Colouring.{PairColouring, IsColouring, FitsColouring, colour_at}
use Rattle.pair_colours.specs.Naming.{named_of}
use Rattle.quotients.specs.Quotient.{least_of, Quotient, Subscheme}
use Rattle.quotients.specs.Law.{IsParted}

-- the list has the least point of the class of each point
pub record AreLeasts (K : PairColouring) (set : ℕ → Bool) (leasts : List ℕ) : Type 0 where
  pub len : length leasts ≡ K.size
  pub is : (x : ℕ) → x < K.size → slice_index leasts x ≡ least_of K set x

-- some pair of points with the least points of x and y has the colour
pub record IsBetween (K : PairColouring) (leasts : List ℕ) (s t colour : ℕ) : Type 0 where
  pub from : ℕ
  pub to : ℕ
  pub row : from < K.size
  pub column : to < K.size
  pub near : slice_index leasts from ≡ s
  pub far : slice_index leasts to ≡ t
  pub is : colour_at K from to ≡ colour

-- at the least points of x and y, M has the least colour of the pairs with these least points
pub record IsLeastMet (K : PairColouring) (leasts : List ℕ) (M : PairColouring) : Type 0 where
  pub size : M.size ≡ K.size
  pub least : (x y : ℕ) → x < K.size → y < K.size → colour_at M (slice_index leasts x) (slice_index leasts y) ≤ colour_at K x y
  pub met : (x y : ℕ) → x < K.size → y < K.size
      → IsBetween K leasts (slice_index leasts x) (slice_index leasts y) (colour_at M (slice_index leasts x) (slice_index leasts y))

-- L has the colours of K between the points of the list
pub record IsPicked (K : PairColouring) (points : List ℕ) (L : PairColouring) : Type 0 where
  pub colouring : IsColouring L
  pub size : L.size ≡ length points
  pub is : (s t : ℕ) → s < length points → t < length points → colour_at L s t ≡ colour_at K (slice_index points s) (slice_index points t)

-- L is the naming of the colouring that has the colours of K between the points of the list
pub record IsNamedPart (K : PairColouring) (points : List ℕ) (L : PairColouring) : Type 0 where
  pub part : PairColouring
  pub picked : IsPicked K points part
  pub named : L ≡ named_of part

-- the list has the least points of the classes of some closed set of a colouring of the program
pub record HasClasses (K : PairColouring) (leasts : List ℕ) : Type 0 where
  pub set : ℕ → Bool
  pub parted : IsParted K set
  pub are : AreLeasts K set leasts
  pub fits : FitsColouring K

-- L is the quotient by each closed set with these least points
pub record IsDivided (K : PairColouring) (leasts : List ℕ) (L : PairColouring) : Type 0 where
  pub quotient : (set : ℕ → Bool) → IsParted K set → AreLeasts K set leasts → Quotient K set L

-- L is the subscheme on the class of x by each closed set with these least points
pub record IsCutOut (K : PairColouring) (leasts : List ℕ) (x : ℕ) (L : PairColouring) : Type 0 where
  pub subscheme : (set : ℕ → Bool) → IsParted K set → AreLeasts K set leasts → Subscheme K set x L
