-- Coherent configurations, and the closure of a colouring.
use Rattle.std.specs.Prelude.{◌≡◌, ℕ, ◌<◌}
use Rattle.pair_colours.specs.Colouring.{PairColouring, IsColouring, IsRawColouring, Refines, colour_at, triangles}
use Rattle.pair_colours.specs.Naming.{named_of}

-- Higman's axioms: no class holds both a diagonal and an off-diagonal pair; the transpose of a class is a class;
-- and the number of z with (x, z) in i and (z, y) in j depends on the colour of (x, y) alone.
-- (A number that is no colour counts 0 everywhere, so i and j may be any numbers.)
pub record Coherent (A : PairColouring) : Type 0 where
  pub splits_diagonal : (x u v : ℕ) → x < A.size → u < A.size → v < A.size
      → colour_at A x x ≡ colour_at A u v → u ≡ v
  pub closed_under_transpose : (x y u v : ℕ) → x < A.size → y < A.size → u < A.size → v < A.size
      → colour_at A x y ≡ colour_at A u v → colour_at A y x ≡ colour_at A v u
  pub constant_triangles : (x y u v : ℕ) → x < A.size → y < A.size → u < A.size → v < A.size
      → colour_at A x y ≡ colour_at A u v → (i j : ℕ) → triangles A x y i j ≡ triangles A u v i j

-- K is a coarsest coherent colouring that refines C (the Weisfeiler-Leman stabilisation, 1968)
pub record IsClosure (K C : PairColouring) : Type 0 where
  pub colouring : IsColouring K
  pub coherent : Coherent K
  pub refines : Refines K C
  pub coarsest : (Q : PairColouring) → IsColouring Q → Coherent Q → Refines Q C → Refines Q K

-- K is the closure of C: its colours are named in the order of the naming walk
pub record IsClosureOf (K C : PairColouring) : Type 0 where
  pub closure : IsClosure K C
  pub named : named_of K ≡ K

-- every colouring has a closure
abbrev pub ClosureExists : Type 0
ClosureExists = (C : PairColouring) → IsColouring C → (K : PairColouring) × IsClosure K C

-- the closures of a colouring have one naming
abbrev pub ClosureIsUnique : Type 0
ClosureIsUnique = (C K L : PairColouring) → IsColouring C → IsClosure K C → IsClosure L C → named_of K ≡ named_of L

-- so each colouring has the closure, and there is only one
abbrev pub NamedClosureExists : Type 0
NamedClosureExists = (C : PairColouring) → IsColouring C → (K : PairColouring) × IsClosureOf K C

abbrev pub NamedClosureIsUnique : Type 0
NamedClosureIsUnique = (C K L : PairColouring) → IsColouring C → IsClosureOf K C → IsClosureOf L C → K ≡ L

-- the closure of a colouring within the limits of points and of raw colours is within them too
abbrev pub ClosureIsRaw : Type 0
ClosureIsRaw = (C K : PairColouring) → IsRawColouring C → IsClosureOf K C → IsRawColouring K
