-- What a search for fusions with given blocks finds.
use Rattle.std.specs.Prelude.{◌≡◌, ◌==◌, ◌⊎◌, ◌↔◌, ℕ, ◌+◌, ◌^◌, ◌<◌, ◌≤◌, true, false, List, [], length, filter, get_or, take, slice_index, Contains}
use Rattle.pair_colours.specs.Colouring.{PairColouring, points}
use Rattle.pair_colours.specs.Naming.{rank_of}
use Rattle.colour_wl.specs.BlockSums.{product_at, transposed, IsDiagonalColour}
use Rattle.colour_wl.specs.Fusions.{IsFusion}
use Rattle.colour_wl.specs.GrowthStrings.{IsBefore}
use Rattle.good_subsets.specs.GoodSets.{IsBlock}
use Rattle.visitors.specs.Masks.{is_member, members_of}

-- a fusion that begins with a prefix
pub record IsWanted (K : PairColouring) (prefix a : List ℕ) : Type 0 where
  pub fusion : IsFusion K a
  pub begins : take (length prefix) a ≡ prefix

-- the colours below n with one head
abbrev pub block_at : ℕ → List ℕ → ℕ → List ℕ
block_at n heads x = filter (λ c. slice_index heads c == x) (points n)

-- the heads of colours below n, of which those that are covered are in blocks: the head of a block is its least colour, and each colour that is not covered is its own head
pub record AreHeads (n : ℕ) (heads : List ℕ) (covered : ℕ) : Type 0 where
  pub len : length heads ≡ 16
  pub low : (c : ℕ) → c < n → slice_index heads c ≤ c
  pub again : (c : ℕ) → c < n → slice_index heads (slice_index heads c) ≡ slice_index heads c
  pub free : (c : ℕ) → c < n → is_member covered c ≡ false → slice_index heads c ≡ c
  pub kept : (c : ℕ) → c < n → is_member covered c ≡ true → is_member covered (slice_index heads c) ≡ true

-- a string has these blocks
pub record HasBlocks (n : ℕ) (a heads : List ℕ) (covered : ℕ) : Type 0 where
  pub each : (c d : ℕ) → c < n → d < n → is_member covered c ≡ true → (slice_index a c ≡ slice_index a d) ↔ (slice_index heads c ≡ slice_index heads d)

-- the head of a block
pub record IsHead (heads : List ℕ) (covered x : ℕ) : Type 0 where
  pub has : is_member covered x ≡ true
  pub own : slice_index heads x ≡ x

-- the product of the block of x and each block has one coefficient at all colours of a block
pub record IsConstantFrom (K : PairColouring) (heads : List ℕ) (covered x : ℕ) : Type 0 where
  pub each : (y k : ℕ) → y < rank_of K → k < rank_of K → IsHead heads covered y
      → product_at K (block_at (rank_of K) heads x) (block_at (rank_of K) heads y) k ≡ product_at K (block_at (rank_of K) heads x) (block_at (rank_of K) heads y) (slice_index heads k)

-- so it is of each block
pub record AreConstant (K : PairColouring) (heads : List ℕ) (covered : ℕ) : Type 0 where
  pub each : (x : ℕ) → x < rank_of K → IsHead heads covered x → IsConstantFrom K heads covered x

-- a colour and its head have transposes of one block, and both are diagonal or neither is
pub record IsSoundAt (K : PairColouring) (heads : List ℕ) (c : ℕ) : Type 0 where
  pub turned : slice_index heads (transposed K c) ≡ slice_index heads (transposed K (slice_index heads c))
  pub diagonal : IsDiagonalColour K c ↔ IsDiagonalColour K (slice_index heads c)

-- so it is of each colour
pub record AreSound (K : PairColouring) (heads : List ℕ) : Type 0 where
  pub each : (c : ℕ) → c < rank_of K → IsSoundAt K heads c

-- the colours of the set of a mask got a head
pub record IsJoined (n : ℕ) (set head : ℕ) (old new : List ℕ) : Type 0 where
  pub len : length new ≡ length old
  pub own : (c : ℕ) → c < n → is_member set c ≡ true → slice_index new c ≡ head
  pub others : (c : ℕ) → c < n → is_member set c ≡ false → slice_index new c ≡ slice_index old c

-- the colour is the least of the set of a mask
pub record IsLeast (set c : ℕ) : Type 0 where
  pub has : is_member set c ≡ true
  pub below : (d : ℕ) → d < c → is_member set d ≡ false

-- the masks of good sets by their least colours: each block of a fusion is there
pub record AreByLeast (K : PairColouring) (goods : List (List ℕ)) : Type 0 where
  pub len : length goods ≡ rank_of K
  pub low : (c j : ℕ) → c < rank_of K → j < length (get_or goods c []) → slice_index (get_or goods c []) j < 2 ^ rank_of K
  pub least : (c j : ℕ) → c < rank_of K → j < length (get_or goods c []) → IsLeast (slice_index (get_or goods c []) j) c
  pub has : (a : List ℕ) (c : ℕ) → IsFusion K a → c < rank_of K → ((d : ℕ) → d < c → slice_index a d ≡ slice_index a c → ⊥)
      → (j : ℕ) × (j < length (get_or goods c [])) × IsBlock a (members_of (rank_of K) (slice_index (get_or goods c []) j))

-- the string has one number at two colours exactly where they have one head
pub record IsOfHeads (heads string : List ℕ) : Type 0 where
  pub same : (c d : ℕ) → c < length string → d < length string → (slice_index string c ≡ slice_index string d) ↔ (slice_index heads c ≡ slice_index heads d)

-- the set has the colours below that of the prefix as a block of a string with the prefix has them
abbrev pub IsCutLike : List ℕ → ℕ → ℕ → Type 0
IsCutLike prefix set v = (c : ℕ) → c < length prefix → is_member set c ≡ (slice_index prefix c == v)

-- the heads and covered colours with one set more
pub record IsExtended (K : PairColouring) (heads : List ℕ) (covered set : ℕ) (new : List ℕ) (all : ℕ) : Type 0 where
  pub are : AreHeads (rank_of K) new all
  pub kept : (c : ℕ) → c < rank_of K → is_member covered c ≡ true → is_member all c ≡ true
  pub own : (c : ℕ) → c < rank_of K → is_member set c ≡ true → is_member all c ≡ true
  pub has : (a : List ℕ) → IsFusion K a → HasBlocks (rank_of K) a heads covered → IsBlock a (members_of (rank_of K) set) → HasBlocks (rank_of K) a new all

-- no wanted fusion with the blocks has the set as a block
abbrev pub CannotJoin : PairColouring → List ℕ → List ℕ → ℕ → ℕ → Type 0
CannotJoin K prefix heads covered set = (a : List ℕ) → IsWanted K prefix a → HasBlocks (rank_of K) a heads covered → IsBlock a (members_of (rank_of K) set) → ⊥

-- what was found is kept, and no other string than one that is wanted was added
pub record IsSearched (K : PairColouring) (prefix : List ℕ) (old new : List (List ℕ)) : Type 0 where
  pub kept : (a : List ℕ) → Contains old a → Contains new a
  pub only : (a : List ℕ) → Contains new a → Contains old a ⊎ IsWanted K prefix a

-- each fusion that is wanted and has these blocks was found
pub record HasFound (K : PairColouring) (prefix heads : List ℕ) (covered : ℕ) (new : List (List ℕ)) : Type 0 where
  pub has : (a : List ℕ) → IsWanted K prefix a → HasBlocks (rank_of K) a heads covered → Contains new a

-- each string comes before the next
abbrev pub IsRisingList : List (List ℕ) → Type 0
IsRisingList list = (k : ℕ) → k + 1 < length list → IsBefore (get_or list k []) (get_or list (k + 1) [])
