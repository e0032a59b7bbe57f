-- The answers that speak of the fusions of a configuration.
use Rattle.std.specs.Prelude.{◌≡◌, ◌≤◌, ℕ, List, Option, Some, None, codes}
use Rattle.std.specs.Borrow.{Bor}
use Rattle.pair_colours.specs.Colouring.{PairColouring}
use Rattle.pair_colours.specs.Closure.{IsClosure}
use Rattle.pair_colours.specs.Naming.{rank_of}
use Rattle.visitors.specs.declared.visitor.TheConstants.{MOST_SET_RANK}
use Rattle.colour_wl.specs.Fusions.{merge, IsFusions, IsFusionsAfter}
use Rattle.colour_wl.specs.GrowthStrings.{IsGrowth}
use Rattle.good_subsets.specs.GoodSets.{IsGoodSets}
use Rattle.report_text.specs.Sets.{sets_text_of}
use Rattle.report_text.specs.declared.sets.SetHead.TheVariants.{Good}
use Rattle.report_text.specs.Strings.{close_text_of, mergings_text_of}
use Rattle.report_text.specs.Refusals.{RefusedUnless}

-- b is the growth string by which the classes of K are merged to the closure of what a merges them to
pub record IsClosedString (K : PairColouring) (a b : List ℕ) : Type 0 where
  pub growth : IsGrowth (rank_of K) b
  pub closure : IsClosure (merge K b) (merge K a)

-- t shows the closure on the classes of K of a string, which must be a growth string of their number
abbrev pub AnswersClose : PairColouring → List ℕ → List ℕ → Type 0
AnswersClose K a t = RefusedUnless (IsGrowth (rank_of K) a) (codes "NotGrowth") t ((b : List ℕ) × IsClosedString K a b × (t ≡ close_text_of b))

-- t lists the good subsets of K, which must have few classes
abbrev pub ListsGood : PairColouring → List ℕ → Type 0
ListsGood K t = RefusedUnless (rank_of K ≤ MOST_SET_RANK) (codes "RankAbove") t ((sets : List (List ℕ)) × IsGoodSets K sets × (t ≡ sets_text_of Good sets))

-- t lists the first fusions of K, at most so many, and says whether more follow: of all fusions, or of those after a string
abbrev pub ListsFusions : PairColouring → ℕ → Option (List ℕ) → List ℕ → Type 0
ListsFusions K most None t = (fusions : List (List ℕ)) × IsFusions K fusions × (t ≡ mergings_text_of fusions most)
ListsFusions K most (Some after) t =
    RefusedUnless (IsGrowth (rank_of K) after) (codes "NotGrowth") t ((fusions : List (List ℕ)) × IsFusionsAfter K after fusions × (t ≡ mergings_text_of fusions most))

-- t does so where K has few classes
abbrev pub AnswersMergings : PairColouring → ℕ → Option (List ℕ) → List ℕ → Type 0
AnswersMergings K most after t = RefusedUnless (rank_of K ≤ MOST_SET_RANK) (codes "RankAbove") t (ListsFusions K most after t)

-- the string that is given, if one is
abbrev pub string_in : Option (Bor (List ℕ)) → Option (List ℕ)
string_in None = None
string_in (Some string) = Some string.now
