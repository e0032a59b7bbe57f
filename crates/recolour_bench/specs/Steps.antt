-- The moves of a history: which are refused, and what the others make of it.
use Rattle.std.specs.Prelude.{◌≡◌, ⊤, ◌==◌, ◌++◌, ◌⊎◌, ◌&&◌, not, nat_lt, ℕ, ◌+◌, ◌*◌, ◌<◌, Bool, List, [], ◌∷◌, take, length, slice_index, Option, Some, None}
use Rattle.std.specs.List.{list_all}
use Rattle.pair_colours.specs.declared.coloured_pairs.TheConstants.{MOST_COLOUR, MOST_POINTS}
use Rattle.pair_colours.specs.Colouring.{PairColouring, colour_at, points}
use Rattle.pair_colours.specs.Closure.{IsClosureOf}
use Rattle.pair_colours.specs.Naming.{rank_of}
use Rattle.pair_colours.specs.Tests.{first_that_holds}
use Rattle.colour_wl.specs.GrowthStrings.{next_number}
use Rattle.recolour_bench.specs.declared.edits.EditFault.{EditFault}
use Rattle.recolour_bench.specs.declared.edits.EditFault.TheVariants.{PointRange, ColourRange, ColourAbsent, NotGrowth, NotHomogeneous, TooManyPoints, HistoryFull, NothingToUndo, NothingToRedo}
use Rattle.recolour_bench.specs.declared.history.TheConstants.{MOST_POSITION}
use Rattle.recolour_bench.specs.Edits.{Edit, Set, Both, Fix, Join, Adopt, Fuse, Direct, Wreath, IsRawEdit, factor_of}
use Rattle.recolour_bench.specs.Recolouring.{has_colour, IsEdited}
use Rattle.recolour_bench.specs.History.{Entry, History, IsEntryAfter, entry_at, present}

-- an edit, or a move to the entry before or after
pub data Move : Type 0 where
  edits : Edit → Move
  undoes : Move
  redoes : Move

-- the colourings that a move names are within the limits
abbrev pub IsRawMove : Move → Type 0
IsRawMove (edits e) = IsRawEdit e
IsRawMove undoes = ⊤
IsRawMove redoes = ⊤

-- the test of a point
abbrev pub point_tests : PairColouring → ℕ → List (Bool × EditFault)
point_tests C x = (not (nat_lt x C.size), PointRange) ∷ []

-- the tests of a pair and of its new colour
abbrev pub pair_tests : PairColouring → ℕ → ℕ → ℕ → List (Bool × EditFault)
pair_tests C x y colour = point_tests C x ++ point_tests C y ++ (nat_lt MOST_COLOUR colour, ColourRange) ∷ []

-- the tests of a colour that a join names
abbrev pub colour_tests : PairColouring → ℕ → List (Bool × EditFault)
colour_tests C colour = (nat_lt MOST_COLOUR colour, ColourRange) ∷ (not (has_colour C colour), ColourAbsent) ∷ []

-- whether a is a growth string of length r
unfoldable pub grows : ℕ → List ℕ → Bool
grows r a = (length a == r) && list_all (λ i. not (nat_lt (next_number (take i a)) (slice_index a i))) (points r)

-- the test of a string that merges the colours of K
abbrev pub string_tests : PairColouring → List ℕ → List (Bool × EditFault)
string_tests K string = (not (grows (rank_of K) string), NotGrowth) ∷ []

-- the test of the points of a product
abbrev pub product_tests : PairColouring → PairColouring → List (Bool × EditFault)
product_tests C other = (nat_lt MOST_POINTS (C.size * other.size), TooManyPoints) ∷ []

-- whether all diagonal pairs of K have one colour
unfoldable pub one_fibre : PairColouring → Bool
one_fibre K = list_all (λ x. colour_at K x x == colour_at K 0 0) (points K.size)

-- the test of the factors K and L of a wreath product
abbrev pub fibre_tests : PairColouring → PairColouring → List (Bool × EditFault)
fibre_tests K L = (not (one_fibre K && one_fibre L), NotHomogeneous) ∷ []

-- the tests of an edit over the colouring C with the closure K, in their order, where L is the closure of the second factor of a product;
-- a join tests the colour that it keeps in full before the other
abbrev pub edit_tests : PairColouring → PairColouring → PairColouring → Edit → List (Bool × EditFault)
edit_tests C K L (Set x y colour) = pair_tests C x y colour
edit_tests C K L (Both x y colour) = pair_tests C x y colour
edit_tests C K L (Fix x) = point_tests C x
edit_tests C K L (Join keep gone) = colour_tests C keep ++ colour_tests C gone
edit_tests C K L Adopt = []
edit_tests C K L (Fuse string) = string_tests K string
edit_tests C K L (Direct other) = product_tests C other
edit_tests C K L (Wreath other) = product_tests C other ++ fibre_tests K L

-- the first refusal that applies to an edit of C at the position: after its own tests, that there is no further position
abbrev pub edit_refusal : PairColouring → PairColouring → PairColouring → ℕ → Edit → Option EditFault
edit_refusal C K L position e = first_that_holds (edit_tests C K L e ++ (position == MOST_POSITION, HistoryFull) ∷ [])

-- the edit of C is not refused at the position, and makes D
pub record Makes (C : PairColouring) (position : ℕ) (e : Edit) (D : PairColouring) : Type 0 where
  pub closure : PairColouring
  pub is_closure : IsClosureOf closure C
  pub factor : PairColouring
  pub is_factor : IsClosureOf factor (factor_of C e)
  pub allowed : edit_refusal C closure factor position e ≡ None
  pub edited : IsEdited C closure factor e D

-- the edit of C is refused at the position with the fault
pub record IsRefusedAt (C : PairColouring) (position : ℕ) (e : Edit) (fault : EditFault) : Type 0 where
  pub closure : PairColouring
  pub is_closure : IsClosureOf closure C
  pub factor : PairColouring
  pub is_factor : IsClosureOf factor (factor_of C e)
  pub refusal : edit_refusal C closure factor position e ≡ Some fault

-- an edit that is not refused cuts the entries after the position, and puts one there for what it makes of the present colouring
pub record EditStep (h : History) (e : Edit) (h2 : History) : Type 0 where
  pub raw : PairColouring
  pub makes : Makes (present h) h.position e raw
  pub entry : Entry
  pub made : IsEntryAfter (entry_at h) raw entry
  pub entries : h2.entries ≡ take (h.position + 1) h.entries ++ entry ∷ []
  pub position : h2.position ≡ h.position + 1

-- an undo moves to the entry before
pub record UndoStep (h h2 : History) : Type 0 where
  pub allowed : 0 < h.position
  pub entries : h2.entries ≡ h.entries
  pub position : h2.position + 1 ≡ h.position

-- a redo moves to the entry after
pub record RedoStep (h h2 : History) : Type 0 where
  pub allowed : h.position + 1 < length h.entries
  pub entries : h2.entries ≡ h.entries
  pub position : h2.position ≡ h.position + 1

-- the move is not refused at h, and h2 is what it makes
abbrev pub Accepts : History → Move → History → Type 0
Accepts h (edits e) h2 = EditStep h e h2
Accepts h undoes h2 = UndoStep h h2
Accepts h redoes h2 = RedoStep h h2

-- the move is refused at h with the fault
abbrev pub IsRefused : History → Move → EditFault → Type 0
IsRefused h (edits e) fault = IsRefusedAt (present h) h.position e fault
IsRefused h undoes fault = (fault ≡ NothingToUndo) × (h.position ≡ 0)
IsRefused h redoes fault = (fault ≡ NothingToRedo) × (h.position + 1 ≡ length h.entries)

-- the move is refused at h, and so nothing has changed
pub record Refuses (h : History) (move : Move) (h2 : History) : Type 0 where
  pub fault : EditFault
  pub refused : IsRefused h move fault
  pub same : h2 ≡ h

-- the move leads from h to h2
abbrev pub Step : History → Move → History → Type 0
Step h move h2 = Accepts h move h2 ⊎ Refuses h move h2
