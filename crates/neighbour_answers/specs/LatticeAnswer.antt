-- The answers of `lattice`.
use Rattle.std.specs.Prelude.{◌≡◌, ◌≤◌, ◌<◌, ℕ, Bool, true, false, List, [], ◌∷◌, ◌++◌, length, codes, decimal}
use Rattle.std.specs.List.{flat_map}
use Rattle.pair_colours.specs.Colouring.{PairColouring}
use Rattle.pair_colours.specs.Naming.{rank_of}
use Rattle.text_lines.specs.Joined.{spaced}
use Rattle.visitors.specs.declared.visitor.TheConstants.{MOST_SET_RANK}
use Rattle.report_text.specs.Entries.{entry_lines}
use Rattle.colour_wl.specs.Fusions.{IsFusions}
use Rattle.fusion_lattice.specs.Common.{CommonOf}
use Rattle.fusion_lattice.specs.Covers.{CoversOf}
use Rattle.fusion_lattice.specs.declared.cover_list.Cover.{Cover}
use Rattle.fusion_lattice.specs.declared.covering.TheConstants.{MOST_FUSIONS}
use Rattle.report_text.specs.Refusals.{RefusedUnless}

-- the line of a cover: the places of the finer and of the coarser fusion
abbrev pub cover_line : Cover → List ℕ
cover_line cover = spaced (cover.finer ∷ cover.coarser ∷ []) ++ codes "\n"

-- a line for each cover
abbrev pub cover_lines : List Cover → List ℕ
cover_lines covers = flat_map cover_line covers

-- how many fusions and covers there are, a line for each fusion, and a line for each cover
abbrev pub lattice_text_of : List (List ℕ) → List Cover → List ℕ
lattice_text_of fusions covers =
    codes "lattice fusions " ++ decimal (length fusions) ++ (codes " covers " ++ decimal (length covers)) ++ codes "\n"
    ++ entry_lines fusions ++ cover_lines covers ++ codes "end\n"

-- the line of the place p of the common fusion of those at i and j
abbrev pub common_text_of : ℕ → ℕ → ℕ → List ℕ
common_text_of i j p = codes "common " ++ spaced (i ∷ j ∷ p ∷ []) ++ codes "\n"

-- the fusions of K are few, and then something is said of their list; else t refuses
abbrev pub OverFusions : PairColouring → List ℕ → (List (List ℕ) → Type 0) → Type 0
OverFusions K t says = (fusions : List (List ℕ)) × IsFusions K fusions × RefusedUnless (length fusions ≤ MOST_FUSIONS) (codes "TooManyFusions") t (says fusions)

-- t shows the fusions of K and their covers
abbrev pub ShowsLattice : PairColouring → List ℕ → List (List ℕ) → Type 0
ShowsLattice K t fusions = (covers : List Cover) × CoversOf K covers × (t ≡ lattice_text_of fusions covers)

-- t does so where K has few classes and few fusions
abbrev pub AnswersLattice : PairColouring → List ℕ → Type 0
AnswersLattice K t = RefusedUnless (rank_of K ≤ MOST_SET_RANK) (codes "RankAbove") t (OverFusions K t (ShowsLattice K t))

-- t shows the place of the common fusion of those at i and j, which must be places of fusions
abbrev pub ShowsCommon : PairColouring → ℕ → ℕ → List ℕ → List (List ℕ) → Type 0
ShowsCommon K i j t fusions =
    RefusedUnless ((i < length fusions) × (j < length fusions)) (codes "PlaceRange") t ((p : ℕ) × CommonOf K i j p × (t ≡ common_text_of i j p))

-- t does so where K has few classes and few fusions
abbrev pub AnswersCommon : PairColouring → ℕ → ℕ → List ℕ → Type 0
AnswersCommon K i j t = RefusedUnless (rank_of K ≤ MOST_SET_RANK) (codes "RankAbove") t (OverFusions K t (ShowsCommon K i j t))

-- where the fusions of K are few all were met; else there are more than may be
abbrev pub AreListed : PairColouring → Bool → List (List ℕ) → Type 0
AreListed K true met = IsFusions K met × (length met ≤ MOST_FUSIONS)
AreListed K false met = (fusions : List (List ℕ)) × IsFusions K fusions × (MOST_FUSIONS < length fusions)
