-- Steps, each of which splits classes of a partition (Weisfeiler and Leman, 1968).
use Rattle.std.specs.Prelude.{◌≡◌, ◌==◌, ◌&&◌, nat_lt, Bool, ℕ, ◌+◌, ◌<◌, ◌≤◌, List, [], ◌∷◌, length, map, filter, count_by, All, if◌then◌else◌}
use Rattle.std.specs.List.{list_any}
use Rattle.pair_colours.specs.Colouring.{PairColouring, colour_at, triangles}
use Rattle.pair_colours.specs.Naming.{walk, first_met, rank_of}
use Rattle.pair_colours.specs.Rounds.{first_alike}
use Rattle.trace_text.specs.declared.step_list.Step.{Step}
use Rattle.trace_text.specs.declared.step_list.Step.TheVariants.{Diag, Flip, Tri, Round}
use Rattle.trace_text.specs.Partition.{coloured_by}

-- where each pair (x, y) has the key `key x y`: a pair with a smaller key is in the class of (x, y)
abbrev pub has_smaller_key : PairColouring → (ℕ → ℕ → ℕ) → ℕ → ℕ → Bool
has_smaller_key P key x y = list_any (λ p. (colour_at P p.0 p.1 == colour_at P x y) && nat_lt (key p.0 p.1) (key x y)) (walk P.size)

-- the different keys that are not the least in the class of their pair
abbrev pub later_keys : PairColouring → (ℕ → ℕ → ℕ) → List ℕ
later_keys P key = first_met (map (λ p. key p.0 p.1) (filter (λ p. has_smaller_key P key p.0 p.1) (walk P.size)))

-- P with its classes parted by the keys: in each class the pairs of the least key keep the number of the class,
-- and the later keys get the rank r, r + 1, .. in their order
abbrev pub parted_by : PairColouring → (ℕ → ℕ → ℕ) → PairColouring
parted_by P key =
    coloured_by P.size (λ x y. if has_smaller_key P key x y then rank_of P + count_by (λ other. nat_lt other (key x y)) (later_keys P key) else colour_at P x y)

-- a key on class k alone
abbrev pub key_in_class : PairColouring → ℕ → (ℕ → ℕ → ℕ) → ℕ → ℕ → ℕ
key_in_class P k key x y = if colour_at P x y == k then key x y else 0

-- the key of (x, y) for a step on class k: whether it is on the diagonal, whether its transposed pair is in a class,
-- or how many points have one class from x and another to y; and for a round, on all classes: which pair is the first that is alike
abbrev pub key_of : PairColouring → Step → ℕ → ℕ → ℕ
key_of P (Diag k) = key_in_class P k (λ x y. if x == y then 0 else 1)
key_of P (Flip k other) = key_in_class P k (λ x y. if colour_at P y x == other then 0 else 1)
key_of P (Tri k left right) = key_in_class P k (λ x y. triangles P x y left right)
key_of P Round = first_alike P

-- what the step makes of P
abbrev pub split_of : PairColouring → Step → PairColouring
split_of P s = parted_by P (key_of P s)

-- the numbers that a step names
abbrev pub numbers_of : Step → List ℕ
numbers_of (Diag k) = k ∷ []
numbers_of (Flip k other) = k ∷ other ∷ []
numbers_of (Tri k left right) = k ∷ left ∷ right ∷ []
numbers_of Round = []

-- the step names numbers of classes
abbrev pub NamesClasses : PairColouring → Step → Type 0
NamesClasses P s = All (λ number. number < rank_of P) (numbers_of s)

-- some class has two parts at least; otherwise the step is idle
abbrev pub HasParts : PairColouring → Step → Type 0
HasParts P s = 1 ≤ length (later_keys P (key_of P s))

-- the step may be made on P
pub record IsAllowed (P : PairColouring) (s : Step) : Type 0 where
  pub names : NamesClasses P s
  pub parts : HasParts P s

-- the step splits P into P2
pub record IsSplit (P : PairColouring) (s : Step) (P2 : PairColouring) : Type 0 where
  pub allowed : IsAllowed P s
  pub is : P2 ≡ split_of P s

-- the steps lead from P to P2, each by a split
abbrev pub Lead : List Step → PairColouring → PairColouring → Type 0
Lead [] P P2 = P2 ≡ P
Lead (s ∷ steps) P P2 = IsAllowed P s × Lead steps (split_of P s) P2

-- the partition after the steps
abbrev pub partition_after : PairColouring → List Step → PairColouring
partition_after P [] = P
partition_after P (s ∷ steps) = partition_after (split_of P s) steps
