-- The answer of `ring`.
use Rattle.std.specs.Prelude.{◌≡◌, ◌≤◌, ℕ, List, ◌++◌, All, length, codes, decimal}
use Rattle.pair_colours.specs.declared.coloured_pairs.TheConstants.{MOST_COLOUR}
use Rattle.pair_colours.specs.Colouring.{PairColouring}
use Rattle.text_lines.specs.Joined.{spaced}
use Rattle.schur_rings.specs.Group.{IsGroup}
use Rattle.schur_rings.specs.Ring.{RingOf, basic_set_count}
use Rattle.report_text.specs.Refusals.{RefusedUnless}

-- a ring with the list g over a group of so many elements: how many basic sets it has, and the number of each element
abbrev pub ring_text_of : ℕ → List ℕ → List ℕ
ring_text_of points g =
    codes "ring points " ++ decimal points ++ codes " rank " ++ decimal (basic_set_count g) ++ codes "\n"
    ++ (spaced g ++ codes "\n")

-- no colour is above the greatest raw colour
abbrev pub AreRawColours : List ℕ → Type 0
AreRawColours f = All (λ colour. colour ≤ MOST_COLOUR) f

-- t shows the closure of the list f on the elements of the group with the table T
abbrev pub ShowsRing : PairColouring → List ℕ → List ℕ → Type 0
ShowsRing T f t = (g : List ℕ) × RingOf T f g × (t ≡ ring_text_of T.size g)

-- t answers for a list f over that group: f has a colour for each element, and each is a raw colour
abbrev pub AnswersOverGroup : PairColouring → List ℕ → List ℕ → Type 0
AnswersOverGroup T f t =
    RefusedUnless (length f ≡ T.size) (codes "ColourCount") t (RefusedUnless (AreRawColours f) (codes "ColourRange") t (ShowsRing T f t))

-- t answers for a table T, which must be that of a group
abbrev pub AnswersRing : PairColouring → List ℕ → List ℕ → Type 0
AnswersRing T f t = RefusedUnless (IsGroup T) (codes "NotGroup") t (AnswersOverGroup T f t)
