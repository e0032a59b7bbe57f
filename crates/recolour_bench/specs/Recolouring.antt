-- What an edit makes of a colouring.
use Rattle.std.specs.Prelude.{◌≡◌, ◌==◌, ◌&&◌, ◌||◌, not, ℕ, ◌+◌, ◌*◌, ◌/◌, ◌%◌, ◌<◌, Bool, map, is_some, if◌then◌else◌}
use Rattle.std.specs.List.{position_or_len}
use Rattle.pair_colours.specs.Colouring.{PairColouring, IsColour, colour_at, points}
use Rattle.pair_colours.specs.Naming.{first_pair_of}
use Rattle.products.specs.Product.{DirectProduct, WreathProduct}
use Rattle.colour_wl.specs.Fusions.{merge}
use Rattle.recolour_bench.specs.Edits.{Edit, Set, Both, Fix, Join, Adopt, Fuse, Direct, Wreath}

-- some pair of C has the colour
abbrev pub has_colour : PairColouring → ℕ → Bool
has_colour C colour = is_some (first_pair_of C colour)

-- the first of the numbers 0, 1, .. that no pair of C has; as there are n * n pairs, one of 0 to n * n is free
abbrev pub least_unused : PairColouring → ℕ
least_unused C = position_or_len (λ number. not (has_colour C number)) (points (C.size * C.size + 1))

-- no pair of C has the number, and each smaller number is the colour of a pair
pub record IsLeastUnused (C : PairColouring) (number : ℕ) : Type 0 where
  pub unused : ¬ (IsColour C number)
  pub least : (smaller : ℕ) → smaller < number → IsColour C smaller

-- the colouring on the points of C that gives (u, v) the colour f u v
abbrev pub recoloured : PairColouring → (ℕ → ℕ → ℕ) → PairColouring
recoloured C f = record { size = C.size; colours = map (λ place. f (place / C.size) (place % C.size)) (points (C.size * C.size)) }

-- (u, v) is the pair (x, y)
abbrev pub is_pair : ℕ → ℕ → ℕ → ℕ → Bool
is_pair x y u v = (u == x) && (v == y)

-- the edit makes D of C, where K is the closure of C and L the closure of the second factor of a product
abbrev pub IsEdited : PairColouring → PairColouring → PairColouring → Edit → PairColouring → Type 0
IsEdited C K L (Set x y colour) D = D ≡ recoloured C (λ u v. if is_pair x y u v then colour else colour_at C u v)
IsEdited C K L (Both x y colour) D = D ≡ recoloured C (λ u v. if is_pair x y u v || is_pair y x u v then colour else colour_at C u v)
IsEdited C K L (Fix x) D = D ≡ recoloured C (λ u v. if is_pair x x u v then least_unused C else colour_at C u v)
IsEdited C K L (Join keep gone) D = D ≡ recoloured C (λ u v. if colour_at C u v == gone then keep else colour_at C u v)
IsEdited C K L Adopt D = D ≡ K
IsEdited C K L (Fuse string) D = D ≡ merge K string
IsEdited C K L (Direct other) D = DirectProduct K L D
IsEdited C K L (Wreath other) D = WreathProduct K L D
