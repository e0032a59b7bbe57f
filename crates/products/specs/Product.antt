-- Direct and wreath products of configurations (Bailey, Association Schemes, 2004, chapter 3).
use Rattle.std.specs.Prelude.{◌≡◌, ◌==◌, ◌↔◌, ℕ, ◌*◌, ◌/◌, ◌%◌, ◌<◌, if◌then◌else◌}
use Rattle.pair_colours.specs.Colouring.{PairColouring, IsColouring, colour_at}
use Rattle.pair_colours.specs.Naming.{named_of}

-- P is the named colouring of the pairs of n points in which pairs are alike exactly where their labels agree
pub record IsNamedLabelling (n : ℕ) (label : ℕ → ℕ → ℕ × ℕ) (P : PairColouring) : Type 0 where
  pub colouring : IsColouring P
  pub size : P.size ≡ n
  pub alike : (p q r s : ℕ) → p < n → q < n → r < n → s < n → colour_at P p q ≡ colour_at P r s ↔ (label p q ≡ label r s)
  pub named : named_of P ≡ P

-- with m the points of B, the point x * m + u of a product is (x, u): its point in A and its point in B
abbrev pub left : PairColouring → ℕ → ℕ
left B p = p / B.size

abbrev pub right : PairColouring → ℕ → ℕ
right B p = p % B.size

-- the label of a pair in the direct product: its colour in A and its colour in B
abbrev pub direct_label : PairColouring → PairColouring → ℕ → ℕ → ℕ × ℕ
direct_label A B p q = (colour_at A (left B p) (left B q), colour_at B (right B p) (right B q))

-- the label of a pair in the wreath product: 0 and its colour in A where both points are one in B, otherwise 1 and its colour in B
abbrev pub wreath_label : PairColouring → PairColouring → ℕ → ℕ → ℕ × ℕ
wreath_label A B p q = if right B p == right B q then (0, colour_at A (left B p) (left B q)) else (1, colour_at B (right B p) (right B q))

-- P is the direct product of A and B
abbrev pub DirectProduct : PairColouring → PairColouring → PairColouring → Type 0
DirectProduct A B P = IsNamedLabelling (A.size * B.size) (direct_label A B) P

-- P is the wreath product of A and B
abbrev pub WreathProduct : PairColouring → PairColouring → PairColouring → Type 0
WreathProduct A B P = IsNamedLabelling (A.size * B.size) (wreath_label A B) P
