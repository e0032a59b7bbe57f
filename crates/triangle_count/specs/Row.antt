-- The triangle numbers of a pair that are not 0.
use Rattle.std.specs.Prelude.{◌≡◌, ℕ, ◌<◌, List, All, AllPairs, Any, ◌⊎◌}
use Rattle.pair_colours.specs.Colouring.{PairColouring, triangles}
use Rattle.triangle_count.specs.declared.rows.Entry.{Entry}

-- e stands before f: by the left colours, and where these are one, by the right ones
abbrev pub Precedes : Entry → Entry → Type 0
Precedes e f = (e.left < f.left) ⊎ ((e.left ≡ f.left) × (e.right < f.right))

-- the entries are the triangle numbers of (x, y) that are not 0, each once, in order
-- (the row of Higman's intersection matrices at one pair)
pub record IsRowAt (C : PairColouring) (x y : ℕ) (entries : List Entry) : Type 0 where
  pub rises : AllPairs Precedes entries
  pub nonzero : All (λ e. 0 < e.count) entries
  pub counts : All (λ e. e.count ≡ triangles C x y e.left e.right) entries
  pub complete : (i j : ℕ) → 0 < triangles C x y i j → Any (λ e. (e.left ≡ i) × (e.right ≡ j)) entries
