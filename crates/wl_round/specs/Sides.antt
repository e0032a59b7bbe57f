-- The pairs of a colouring with what compares them.
use Rattle.std.specs.Prelude.{◌≡◌, ◌↔◌, ◌==◌, ℕ, ◌+◌, ◌*◌, ◌<◌, List, length, count_by, slice_index}
use Rattle.pair_colours.specs.Colouring.{PairColouring, points}
use Rattle.wl_round.specs.declared.sides.Tables.{Tables}
use Rattle.wl_round.specs.RowCodes.{IsSquare, IsRowCode}

-- `turned` has the class of the transposed pair at each place
pub record IsTurned (size : ℕ) (class turned : List ℕ) : Type 0 where
  pub len : length turned ≡ size * size
  pub is : (x y : ℕ) → x < size → y < size → slice_index turned (x * size + y) ≡ slice_index class (y * size + x)

-- each entry times the size
pub record AreScaled (size : ℕ) (places lefts : List ℕ) : Type 0 where
  pub len : length lefts ≡ size * size
  pub is : (p : ℕ) → p < size * size → slice_index lefts p ≡ slice_index places p * size

-- the colouring of the tables
abbrev pub colouring_of : Tables → PairColouring
colouring_of t = record { size = t.size; colours = t.classes.items }

-- the transposed classes, the leads of rows and columns, and the short numbers, those of the rows times the size
pub record AreTables (t : Tables) : Type 0 where
  pub square : IsSquare t.size t.classes.items
  pub turned : IsTurned t.size t.classes.items t.turned.items
  pub places : List ℕ
  pub rows : IsRowCode t.size t.classes.items t.row_leads.items places
  pub lefts : AreScaled t.size places t.lefts.items
  pub columns : IsRowCode t.size t.turned.items t.column_leads.items t.rights.items

-- the code over z of the pair (x, y): it tells what stands from x to z and from z to y
abbrev pub code_over : Tables → ℕ → ℕ → ℕ → ℕ
code_over t x y z = slice_index t.lefts.items (x * t.size + z) + slice_index t.rights.items (y * t.size + z)

-- over how many points the pair (x, y) has this code
abbrev pub code_count : Tables → ℕ → ℕ → ℕ → ℕ
code_count t x y code = count_by (λ z. code_over t x y z == code) (points t.size)

-- two pairs both on the diagonal or both off it, of one colour, of one transposed colour, and of rows and columns with the same leads
pub record AreOfOneKind (t : Tables) (x y u v : ℕ) : Type 0 where
  pub diagonal : (x ≡ y) ↔ (u ≡ v)
  pub own : slice_index t.classes.items (x * t.size + y) ≡ slice_index t.classes.items (u * t.size + v)
  pub turned : slice_index t.turned.items (x * t.size + y) ≡ slice_index t.turned.items (u * t.size + v)
  pub rows : slice_index t.row_leads.items x ≡ slice_index t.row_leads.items u
  pub columns : slice_index t.column_leads.items y ≡ slice_index t.column_leads.items v

-- the counts are those of the codes of the pair (x, y)
pub record HasCodeCounts (t : Tables) (x y : ℕ) (counts : List ℕ) : Type 0 where
  pub is : (code : ℕ) → slice_index counts code ≡ code_count t x y code
