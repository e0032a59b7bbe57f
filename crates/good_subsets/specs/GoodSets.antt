-- Good sets of colours: the blocks of fusions (Klin, Muzychuk, Pech, Woldar and Zieschang,
-- Association schemes on 28 points as mergings of a half-homogeneous coherent configuration, 2007).
use Rattle.std.specs.Prelude.{◌≡◌, ◌↔◌, ℕ, ◌<◌, cond, true, List, map, Contains, All}
use Rattle.pair_colours.specs.Colouring.{PairColouring, colour_at}
use Rattle.pair_colours.specs.ColourSets.{is_in}
use Rattle.pair_colours.specs.Naming.{rank_of}
use Rattle.pair_colours.specs.Subsets.{subsets, bit_number}
use Rattle.pair_colours.specs.Those.{AreThose}
use Rattle.visitors.specs.Entries.{IsEntry}
use Rattle.visitors.specs.Masks.{members_of}
use Rattle.colour_wl.specs.Fusions.{IsFusion}
use Rattle.colour_wl.specs.BlockSums.{places_of}

-- the set is a block of a: the places of one of its numbers
pub record IsBlock (a set : List ℕ) : Type 0 where
  pub number : ℕ
  pub used : Contains a number
  pub places : set ≡ places_of a number

-- the set is good: a block of a fusion of K
pub record IsGood (K : PairColouring) (set : List ℕ) : Type 0 where
  pub fusion : List ℕ
  pub is_fusion : IsFusion K fusion
  pub block : IsBlock fusion set

-- the list of all good sets of K, in the order of their bit numbers
abbrev pub IsGoodSets : PairColouring → List (List ℕ) → Type 0
IsGoodSets K sets = AreThose (IsGood K) (subsets (rank_of K)) sets

-- the numbers are the bit numbers of all good sets, in their order
pub record AreGoodNumbers (K : PairColouring) (numbers : List ℕ) : Type 0 where
  pub bit_numbers : (sets : List (List ℕ)) → IsGoodSets K sets → numbers ≡ map bit_number sets
  -- and so, as masks, they are those of the good sets
  pub masks : IsGoodSets K (map (members_of (rank_of K)) numbers)
  -- each may be met
  pub entries : All (λ mask. IsEntry (members_of (rank_of K) mask)) numbers

-- the colouring 'in the set or not': 1 for the pairs with a colour in the set, 0 for the others
abbrev pub in_or_not : PairColouring → List ℕ → PairColouring
in_or_not K set = record { size = K.size; colours = map (λ c. cond (is_in set c) 1 0) K.colours }

-- the pairs with a K-colour in the set are one class of L
pub record IsOneClass (K L : PairColouring) (set : List ℕ) : Type 0 where
  pub x : ℕ
  pub y : ℕ
  pub row : x < K.size
  pub column : y < K.size
  pub is : (u v : ℕ) → u < K.size → v < K.size → (is_in set (colour_at K u v) ≡ true) ↔ (colour_at L u v ≡ colour_at L x y)
