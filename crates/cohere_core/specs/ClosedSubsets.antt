-- The answers that speak of the closed subsets of a configuration.
use Rattle.std.specs.Prelude.{◌≡◌, ◌<◌, ◌≤◌, ℕ, List, codes}
use Rattle.pair_colours.specs.Colouring.{PairColouring}
use Rattle.pair_colours.specs.ColourSets.{is_in}
use Rattle.pair_colours.specs.ClosedSet.{ClosedSets}
use Rattle.pair_colours.specs.Naming.{rank_of}
use Rattle.visitors.specs.declared.visitor.TheConstants.{MOST_SET_RANK}
use Rattle.pair_colours.specs.Fibres.{HasOneFibre}
use Rattle.quotients.specs.Quotient.{IsClosedSubset, Quotient, Subscheme}
use Rattle.report_text.specs.Refusals.{RefusedUnless}
use Rattle.report_text.specs.Matrices.{quotient_text, sub_text}
use Rattle.report_text.specs.Sets.{sets_text_of}
use Rattle.report_text.specs.declared.sets.SetHead.TheVariants.{Closed}

-- t lists the closed subsets of K, which must have few classes
abbrev pub ListsClosed : PairColouring → List ℕ → Type 0
ListsClosed K t = RefusedUnless (rank_of K ≤ MOST_SET_RANK) (codes "RankAbove") t ((sets : List (List ℕ)) × ClosedSets K sets × (t ≡ sets_text_of Closed sets))

-- the answer needs one fibre, and then a closed subset
abbrev pub NeedsClosed : PairColouring → List ℕ → List ℕ → Type 0 → Type 0
NeedsClosed K set t answer =
    RefusedUnless (HasOneFibre K) (codes "NotHomogeneous") t (RefusedUnless (IsClosedSubset K set) (codes "NotClosed") t answer)

-- t is the quotient of K by the set
abbrev pub AnswersQuotient : PairColouring → List ℕ → List ℕ → Type 0
AnswersQuotient K set t = NeedsClosed K set t ((L : PairColouring) × Quotient K (is_in set) L × (t ≡ quotient_text L))

-- t is the subscheme of K on the class of the point x, which must be there
abbrev pub AnswersSub : PairColouring → ℕ → List ℕ → List ℕ → Type 0
AnswersSub K x set t =
    NeedsClosed K set t (RefusedUnless (x < K.size) (codes "PointRange") t ((L : PairColouring) × Subscheme K (is_in set) x L × (t ≡ sub_text L)))
