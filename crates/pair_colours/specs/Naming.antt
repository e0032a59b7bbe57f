-- The canonical naming of colours: by first occurrence along a fixed walk over the pairs.
use Rattle.std.specs.Prelude.{◌≡◌, ◌==◌, not, nat_lt, ℕ, ◌<◌, List, [], ◌∷◌, ◌++◌, length, map, filter, find, count_by, Option, option_map}
use Rattle.std.specs.List.{flat_map, position_or_len}
use Rattle.pair_colours.specs.Colouring.{PairColouring, IsColouring, Refines, colour_at, points}

-- the off-diagonal pairs of row x
abbrev pub row_of : ℕ → ℕ → List (ℕ × ℕ)
row_of n x = map (λ y. (x, y)) (filter (λ y. not (x == y)) (points n))

-- the naming walk: the diagonal pairs, and then the others row by row
abbrev pub walk : ℕ → List (ℕ × ℕ)
walk n = map (λ x. (x, x)) (points n) ++ flat_map (row_of n) (points n)

-- the different numbers of a list, in the order of their first places
abbrev pub first_met : List ℕ → List ℕ
first_met [] = []
first_met (x ∷ xs) = x ∷ filter (λ y. not (x == y)) (first_met xs)

-- the colours of A, in the order of the walk
abbrev pub colours_met : PairColouring → List ℕ
colours_met A = first_met (map (λ p. colour_at A p.0 p.1) (walk A.size))

-- the number of classes
abbrev pub rank_of : PairColouring → ℕ
rank_of A = length (colours_met A)

-- the first pair of a class, in the order of the walk
abbrev pub first_pair_of : PairColouring → ℕ → Option (ℕ × ℕ)
first_pair_of A colour = find (λ p. colour_at A p.0 p.1 == colour) (walk A.size)

-- the place on the walk of the first pair of a class
abbrev pub first_place_of : PairColouring → ℕ → ℕ
first_place_of A colour = position_or_len (λ p. colour_at A p.0 p.1 == colour) (walk A.size)

-- the name of a class: how many classes have their first pair before its own
abbrev pub name_of : PairColouring → ℕ → ℕ
name_of A colour = count_by (λ other. nat_lt (first_place_of A other) (first_place_of A colour)) (colours_met A)

-- the same classes, each with its name as its colour
abbrev pub named_of : PairColouring → PairColouring
named_of A = record { size = A.size; colours = map (name_of A) A.colours }

-- the colour of the transpose of the first pair of a class
abbrev pub transpose_of : PairColouring → ℕ → Option ℕ
transpose_of A colour = option_map (λ p. colour_at A p.1 p.0) (first_pair_of A colour)

-- M is the named meet: two pairs have one colour in M exactly where they have one in A and one in B
pub record IsNamedMeet (A B M : PairColouring) : Type 0 where
  pub colouring : IsColouring M
  pub first : Refines M A
  pub second : Refines M B
  pub together : (x y u v : ℕ) → x < M.size → y < M.size → u < M.size → v < M.size
      → colour_at A x y ≡ colour_at A u v → colour_at B x y ≡ colour_at B u v → colour_at M x y ≡ colour_at M u v
  pub named : named_of M ≡ M
