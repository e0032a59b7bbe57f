-- Sets of numbers as rising lists, and the list of all those below a bound.
use Rattle.std.specs.Prelude.{◌≡◌, ◌↔◌, ℕ, zero, suc, ◌^◌, ◌<◌, List, [], ◌∷◌, ◌++◌, map, sum_by, Contains, All}
use Rattle.std.specs.List.Sorted.{IsStrictlyIncreasing}
use Rattle.pair_colours.specs.Colouring.{points}

-- a set of numbers below n, in rising order
pub record IsSetBelow (n : ℕ) (set : List ℕ) : Type 0 where
  pub rising : IsStrictlyIncreasing set
  pub below : All (λ c. c < n) set

-- the sets of numbers below n, each in rising order, in the order of their bit numbers
abbrev pub subsets : ℕ → List (List ℕ)
subsets zero = [] ∷ []
subsets (suc n) = subsets n ++ map (λ set. set ++ n ∷ []) (subsets n)

-- the bit number of a set, in which c counts 2 to the power c
abbrev pub bit_number : List ℕ → ℕ
bit_number set = sum_by (λ c. 2 ^ c) set

-- the list has each set of numbers below n, and their bit numbers are those below 2 to the power n, rising
pub record SubsetsAreAll : Type 0 where
  pub all : (n : ℕ) (set : List ℕ) → Contains (subsets n) set ↔ IsSetBelow n set
  pub in_order : (n : ℕ) → map bit_number (subsets n) ≡ points (2 ^ n)
