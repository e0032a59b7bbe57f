-- The edits of a colouring, as plain values.
use Rattle.std.specs.Prelude.{ℕ, List, ⊤, Bool, true, false}
use Rattle.pair_colours.specs.Colouring.{PairColouring, IsRawColouring}
use Rattle.recolour_bench.specs.declared.edits.Edit as program
use Rattle.recolour_bench.specs.declared.edits.Edit.TheVariants as given

-- a change of the present colouring; points, colours and strings may be any numbers, and a product names another colouring
pub data Edit : Type 0 where
  Set : (x y colour : ℕ) → Edit
  Both : (x y colour : ℕ) → Edit
  Fix : (x : ℕ) → Edit
  Join : (keep gone : ℕ) → Edit
  Adopt : Edit
  Fuse : (string : List ℕ) → Edit
  Direct : (other : PairColouring) → Edit
  Wreath : (other : PairColouring) → Edit

-- the edit that the program is given
abbrev pub edit_of : program.Edit → Edit
edit_of (given.Set x y colour) = Set x y colour
edit_of (given.Both x y colour) = Both x y colour
edit_of (given.Fix x) = Fix x
edit_of (given.Join keep gone) = Join keep gone
edit_of given.Adopt = Adopt
edit_of (given.Fuse string) = Fuse string.now
edit_of (given.Direct other) = Direct other.now
edit_of (given.Wreath other) = Wreath other.now

-- what the edit makes is coherent, whatever it is made of
abbrev pub makes_closure : Edit → Bool
makes_closure (Set x y colour) = false
makes_closure (Both x y colour) = false
makes_closure (Fix x) = false
makes_closure (Join keep gone) = false
makes_closure Adopt = true
makes_closure (Fuse string) = false
makes_closure (Direct other) = true
makes_closure (Wreath other) = true

-- the colouring that the edit names, if it names one, is within the limits
abbrev pub IsRawEdit : Edit → Type 0
IsRawEdit (Set x y colour) = ⊤
IsRawEdit (Both x y colour) = ⊤
IsRawEdit (Fix x) = ⊤
IsRawEdit (Join keep gone) = ⊤
IsRawEdit Adopt = ⊤
IsRawEdit (Fuse string) = ⊤
IsRawEdit (Direct other) = IsRawColouring other
IsRawEdit (Wreath other) = IsRawColouring other

-- the colouring whose closure is the second factor of a product: the one that the edit names; where it names none, the present colouring C
abbrev pub factor_of : PairColouring → Edit → PairColouring
factor_of C (Set x y colour) = C
factor_of C (Both x y colour) = C
factor_of C (Fix x) = C
factor_of C (Join keep gone) = C
factor_of C Adopt = C
factor_of C (Fuse string) = C
factor_of C (Direct other) = other
factor_of C (Wreath other) = other
