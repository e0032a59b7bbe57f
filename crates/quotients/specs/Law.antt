-- What holds of the quotients and subschemes of all homogeneous coherent configurations.
use Rattle.std.specs.Prelude.{◌≡◌, ℕ, ◌<◌, Bool}
use Rattle.pair_colours.specs.Colouring.{PairColouring, IsColouring}
use Rattle.pair_colours.specs.Closure.{Coherent}
use Rattle.pair_colours.specs.ClosedSet.{IsClosedSet}
use Rattle.pair_colours.specs.Fibres.{HasOneFibre}
use Rattle.quotients.specs.Quotient.{IsMet, MeetSame, Quotient, Subscheme}

-- a coherent configuration with one fibre, and a closed set of its colours
pub record IsParted (K : PairColouring) (set : ℕ → Bool) : Type 0 where
  pub colouring : IsColouring K
  pub coherent : Coherent K
  pub one_fibre : HasOneFibre K
  pub closed : IsClosedSet K set

-- its quotient is coherent; there is one, and only one
abbrev pub QuotientIsCoherent : Type 0
QuotientIsCoherent = (K : PairColouring) (set : ℕ → Bool) (L : PairColouring) → IsParted K set → Quotient K set L → Coherent L

abbrev pub QuotientExists : Type 0
QuotientExists = (K : PairColouring) (set : ℕ → Bool) → IsParted K set → (L : PairColouring) × Quotient K set L

abbrev pub QuotientIsUnique : Type 0
QuotientIsUnique = (K : PairColouring) (set : ℕ → Bool) (L M : PairColouring) → Quotient K set L → Quotient K set M → L ≡ M

-- the colours met between two classes and those met between two others are the same, or no colour is met both times
abbrev pub SameOrDisjoint : Type 0
SameOrDisjoint = (K : PairColouring) (set : ℕ → Bool) (x y u v colour : ℕ) → IsParted K set → x < K.size → y < K.size → u < K.size → v < K.size
    → IsMet K set x y colour → IsMet K set u v colour → MeetSame K set x y u v

-- its subscheme on the class of a point is coherent; there is one, and only one
abbrev pub SubschemeIsCoherent : Type 0
SubschemeIsCoherent =
    (K : PairColouring) (set : ℕ → Bool) (x : ℕ) (L : PairColouring) → IsParted K set → x < K.size → Subscheme K set x L → Coherent L

abbrev pub SubschemeExists : Type 0
SubschemeExists = (K : PairColouring) (set : ℕ → Bool) (x : ℕ) → IsParted K set → x < K.size → (L : PairColouring) × Subscheme K set x L

abbrev pub SubschemeIsUnique : Type 0
SubschemeIsUnique = (K : PairColouring) (set : ℕ → Bool) (x : ℕ) (L M : PairColouring) → Subscheme K set x L → Subscheme K set x M → L ≡ M
