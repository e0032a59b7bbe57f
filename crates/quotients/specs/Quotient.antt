-- Quotients of a configuration by a closed subset, and its subschemes (Bailey, Association Schemes, 2004, chapter 10).
use Rattle.std.specs.Prelude.{◌≡◌, ◌==◌, ◌↔◌, ℕ, ◌<◌, Bool, IsTrue, List, length, filter, slice_index}
use Rattle.std.specs.List.{position_or_len}
use Rattle.pair_colours.specs.Colouring.{PairColouring, IsColouring, colour_at, points}
use Rattle.pair_colours.specs.ColourSets.{is_in, IsColourSet}
use Rattle.pair_colours.specs.ClosedSet.{IsClosedSet}
use Rattle.pair_colours.specs.Naming.{named_of}

-- each number of the set is a colour, and the pairs with a colour in the set form an equivalence relation
pub record IsClosedSubset (K : PairColouring) (set : List ℕ) : Type 0 where
  pub colours : IsColourSet K set
  pub closed : IsClosedSet K (is_in set)

-- the points of the class of x, rising
abbrev pub class_of : PairColouring → (ℕ → Bool) → ℕ → List ℕ
class_of K set x = filter (λ y. set (colour_at K x y)) (points K.size)

-- the least point of the class of x
abbrev pub least_of : PairColouring → (ℕ → Bool) → ℕ → ℕ
least_of K set x = position_or_len (λ y. set (colour_at K x y)) (points K.size)

-- the classes by their least points, rising
abbrev pub classes : PairColouring → (ℕ → Bool) → List ℕ
classes K set = filter (λ x. least_of K set x == x) (points K.size)

-- some pair of a point in the class of x and a point in the class of y has the colour
pub record IsMet (K : PairColouring) (set : ℕ → Bool) (x y colour : ℕ) : Type 0 where
  pub from : ℕ
  pub to : ℕ
  pub row : from < K.size
  pub column : to < K.size
  pub near : IsTrue (set (colour_at K x from))
  pub far : IsTrue (set (colour_at K y to))
  pub is : colour_at K from to ≡ colour

-- between the classes of x and y the same colours are met as between those of u and v
pub record MeetSame (K : PairColouring) (set : ℕ → Bool) (x y u v : ℕ) : Type 0 where
  pub colours : (colour : ℕ) → IsMet K set x y colour ↔ IsMet K set u v colour

-- L is the quotient of K by the set: the named colouring of the pairs of classes in which two pairs are alike exactly where the same colours are met between them
pub record Quotient (K : PairColouring) (set : ℕ → Bool) (L : PairColouring) : Type 0 where
  pub colouring : IsColouring L
  pub size : L.size ≡ length (classes K set)
  pub alike : (s t a b : ℕ) → s < L.size → t < L.size → a < L.size → b < L.size → colour_at L s t ≡ colour_at L a b
      ↔ MeetSame K set (slice_index (classes K set) s) (slice_index (classes K set) t) (slice_index (classes K set) a) (slice_index (classes K set) b)
  pub named : named_of L ≡ L

-- L is the subscheme of K on the class of x: the naming of K on its points
pub record Subscheme (K : PairColouring) (set : ℕ → Bool) (x : ℕ) (L : PairColouring) : Type 0 where
  pub colouring : IsColouring L
  pub size : L.size ≡ length (class_of K set x)
  pub alike : (s t a b : ℕ) → s < L.size → t < L.size → a < L.size → b < L.size → colour_at L s t ≡ colour_at L a b
      ↔ (colour_at K (slice_index (class_of K set x) s) (slice_index (class_of K set x) t)
      ≡ colour_at K (slice_index (class_of K set x) a) (slice_index (class_of K set x) b))
  pub named : named_of L ≡ L
