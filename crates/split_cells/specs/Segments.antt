-- Numbered classes as segments of one list.
use Rattle.std.specs.Prelude.{◌≡◌, ℕ, ◌+◌, ◌-◌, ◌^◌, ◌<◌, ◌≤◌, List, length, slice_index}
use Rattle.split_cells.specs.declared.partings.Parting.{Parting}

-- `order` has each number below its length once, class by class, `place` says where each stands,
-- and class k is the segment of len[k] places from start[k] on
pub record IsSegmented (class order place start len : List ℕ) (rank : ℕ) : Type 0 where
  pub small : length order < 2 ^ 31
  pub classes : length class ≡ length order
  pub places : length place ≡ length order
  pub starts : length start ≡ length order + 1
  pub lens : length len ≡ length order + 1
  pub ranks : rank ≤ length order + 1
  pub place_in : (p : ℕ) → p < length order → slice_index place p < length order
  pub order_at : (p : ℕ) → p < length order → slice_index order (slice_index place p) ≡ p
  pub order_in : (a : ℕ) → a < length order → slice_index order a < length order
  pub place_at : (a : ℕ) → a < length order → slice_index place (slice_index order a) ≡ a
  pub class_in : (p : ℕ) → p < length order → slice_index class p < rank
  pub low : (p : ℕ) → p < length order → slice_index start (slice_index class p) ≤ slice_index place p
  pub high : (p : ℕ) → p < length order → slice_index place p < slice_index start (slice_index class p) + slice_index len (slice_index class p)
  pub ends : (k : ℕ) → k < rank → slice_index start k + slice_index len k ≤ length order
  pub members : (k : ℕ) → k < rank → (a : ℕ) → slice_index start k ≤ a → a < slice_index start k + slice_index len k → slice_index class (slice_index order a) ≡ k

abbrev pub IsParting : Parting → Type 0
IsParting s = IsSegmented s.class.items s.order.items s.place.items s.start.items s.len.items s.rank

-- how many numbers are parted
abbrev pub bound_of : Parting → ℕ
bound_of s = length s.order.items

-- the class of p
abbrev pub class_at : Parting → ℕ → ℕ
class_at s p = slice_index s.class.items p

-- class `new` stands right behind class k
abbrev pub StandsBehind : Parting → ℕ → ℕ → Type 0
StandsBehind s k new = slice_index s.start.items new ≡ slice_index s.start.items k + slice_index s.len.items k

-- the first member of class k
abbrev pub first_of : Parting → ℕ → ℕ
first_of s k = slice_index s.order.items (slice_index s.start.items k)

-- where number p stands among the members of class k
abbrev pub stands_at : Parting → ℕ → ℕ → ℕ
stands_at s k p = slice_index s.place.items p - slice_index s.start.items k

-- the list has the numbers of class k, each once: number p stands at `at p`
pub record IsMembers (class : List ℕ) (k : ℕ) (at : ℕ → ℕ) (members : List ℕ) : Type 0 where
  pub inside : (a : ℕ) → a < length members → slice_index members a < length class
  pub member : (a : ℕ) → a < length members → slice_index class (slice_index members a) ≡ k
  pub listed : (p : ℕ) → p < length class → slice_index class p ≡ k → at p < length members
  pub is : (p : ℕ) → p < length class → slice_index class p ≡ k → slice_index members (at p) ≡ p
  pub back : (a : ℕ) → a < length members → at (slice_index members a) ≡ a
