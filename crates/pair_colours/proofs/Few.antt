use Rattle.std.proofs.Common.{◌==◌, ℕ, ◌+◌, ◌*◌, ◌^◌, ◌<◌, ◌≤◌, Bool, not, List, [], ◌∷◌, length, get_or, map, filter, arith}
use Rattle.std.proofs.lemmas.List.{length-map}
use Rattle.std.proofs.lemmas.List.Elements.{All-map}
use Rattle.pair_colours.proofs.NamePlaces.{name_of-position}
use Rattle.pair_colours.proofs.Closures.{IsColouring-named_of}
use Rattle.std.proofs.lemmas.List.Sums.{prefix_len-le-length, length-filter, count_by-le-length}
use Rattle.std.proofs.lemmas.Nat.{mul-le}
use Rattle.pair_colours.specs.declared.coloured_pairs.TheConstants.{MOST_POINTS}
use Rattle.pair_colours.specs.Colouring.{PairColouring, FitsColouring, colour_at}
use Rattle.pair_colours.proofs.WalkPlaces.{length-walk}
use Rattle.pair_colours.specs.Naming.{walk, first_met, colours_met, name_of, named_of}

-- a filter keeps no more than there is
filter-le : {X : Type 0} (p : X → Bool) (xs : List X) → length (filter p xs) ≤ length xs
filter-le p xs = omega (arith, length-filter p xs, count_by-le-length p xs)

-- there are no more different numbers than numbers
pub first_met-le : (xs : List ℕ) → length (first_met xs) ≤ length xs
first_met-le [] = omega arith
first_met-le (x ∷ xs) = omega (arith, first_met-le xs, filter-le (λ y. not (x == y)) (first_met xs))

pub colours_met-le : (A : PairColouring) → length (colours_met A) ≤ A.size + A.size * A.size
colours_met-le A =
    omega (arith, first_met-le (map (λ p. colour_at A p.0 p.1) (walk A.size)), length-map (walk A.size) (λ p. colour_at A p.0 p.1), length-walk A.size)

pub few_met : (A : PairColouring) → FitsColouring A → length (colours_met A) < 2 ^ 32
few_met A h = omega (arith, colours_met-le A, h.limit, mul-le A.size A.size MOST_POINTS MOST_POINTS h.limit h.limit)

pub FitsColouring-named_of : (A : PairColouring) → FitsColouring A → FitsColouring (named_of A)
FitsColouring-named_of A h = record {
  colouring = IsColouring-named_of A h.colouring;
  limit = h.limit;
  numbers =
      All-map (λ c. c < 2 ^ 32) (name_of A) A.colours
      (λ k d l. omega (arith, few_met A h, name_of-position A (get_or A.colours k d), prefix_len-le-length (λ y. not (get_or A.colours k d == y)) (colours_met A)));
}
