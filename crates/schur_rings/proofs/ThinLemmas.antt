-- The colours of the thin scheme and of Cayley colourings.
use Rattle.std.proofs.Common.{◌≡◌, ℕ, ◌+◌, ◌*◌, ◌/◌, ◌%◌, ◌<◌, ◌≤◌, List, slice_index, ⊎_elim, refl, sym, ap, subst, ◌∙◌, arith}
use Rattle.std.proofs.lemmas.Bool.{cases_lt}
use Rattle.pair_colours.specs.Colouring.{PairColouring, IsColouring, Refines, colour_at, points}
use Rattle.pair_colours.proofs.Exists.{colour_at-by_pairs, IsColouring-by_pairs}
use Rattle.pair_colours.proofs.ListLemmas.{map-map}
use Rattle.pair_colours.proofs.SameColours.{same_colouring}
use Rattle.colour_wl.specs.Fusions.{merge}
use Rattle.schur_rings.specs.Group.{IsGroup, inverse_of, quotient}
use Rattle.schur_rings.specs.Ring.{cayley}
use Rattle.schur_rings.specs.Thin.{IsRowFilled, thin_of}
use Rattle.schur_rings.proofs.GroupLemmas.{unit_below, quotient_of_unit}

pub thin_at : (T : PairColouring) (x y : ℕ) → x < T.size → y < T.size → colour_at (thin_of T) x y ≡ quotient T x y
thin_at T = colour_at-by_pairs T.size (quotient T)

pub cayley_at : (T : PairColouring) (f : List ℕ) (x y : ℕ) → x < T.size → y < T.size → colour_at (cayley T f) x y ≡ slice_index f (quotient T x y)
cayley_at T f = colour_at-by_pairs T.size (λ x y. slice_index f (quotient T x y))

pub IsColouring-thin : (T : PairColouring) → IsColouring T → IsColouring (thin_of T)
IsColouring-thin T h = IsColouring-by_pairs T.size (quotient T) h.has_points

pub IsColouring-cayley : (T : PairColouring) (f : List ℕ) → IsColouring T → IsColouring (cayley T f)
IsColouring-cayley T f h = IsColouring-by_pairs T.size (λ x y. slice_index f (quotient T x y)) h.has_points

-- a Cayley colouring merges the colours of the thin scheme
pub merge-thin : (T : PairColouring) (f : List ℕ) → merge (thin_of T) f ≡ cayley T f
merge-thin T f =
    let colours = map-map (slice_index f) (λ p. quotient T (p / T.size) (p % T.size)) (points (T.size * T.size)) in
    λ i. record { size = T.size; colours = colours i }

-- a row of quotients more
pub filled_more : (T A B : PairColouring) (n x : ℕ) → n ≡ T.size → x < n → ((u v : ℕ) → u < x → v < n → colour_at A u v ≡ quotient T u v) → IsRowFilled T x A B
    → (u v : ℕ) → u < x + 1 → v < n → colour_at B u v ≡ quotient T u v
filled_more T A B n x e hx h r u v hu hv = ⊎_elim
    (λ (l : u < x). r.others u v (omega (arith, hx, l, e)) (omega (arith, hv, e)) (λ s. omega (arith, s, l)) ∙ h u v l hv)
    (λ (l : x ≤ u). let s : x ≡ u = omega (arith, l, hu) in subst (λ w. colour_at B w v ≡ quotient T w v) s (r.row v (omega (arith, hv, e))))
    (cases_lt u x)

-- all rows of quotients
pub filled_all : (T A : PairColouring) (n k : ℕ) → IsColouring T → IsColouring A → n ≡ T.size → A.size ≡ n → n ≤ k → ((u v : ℕ) → u < k → v < n → colour_at A u v ≡ quotient T u v) → A ≡ thin_of T
filled_all T A n k t a e s l h =
    same_colouring A (thin_of T) a (IsColouring-thin T t) (record {
      sizes = s ∙ e;
      colours = λ x y hx hy. h x y (omega (arith, hx, s, l)) (omega (arith, hy, s)) ∙ sym (thin_at T x y (omega (arith, hx, s, e)) (omega (arith, hy, s, e)));
    })

-- the thin scheme refines each Cayley colouring
pub thin_refines : (T : PairColouring) (f : List ℕ) → Refines (thin_of T) (cayley T f)
thin_refines T f = record {
  sizes = refl;
  classes = λ x y u v hx hy hu hv e.
      cayley_at T f x y hx hy ∙ ap (slice_index f) (sym (thin_at T x y hx hy) ∙ e ∙ thin_at T u v hu hv) ∙ sym (cayley_at T f u v hu hv);
}

-- the inverses stand in its column 0
pub inverse_in_thin : (T K : PairColouring) → IsGroup T → (x : ℕ) → x < T.size → K ≡ thin_of T → colour_at K x 0 ≡ inverse_of T x
inverse_in_thin T K g x hx k = ap (λ (L : PairColouring). colour_at L x 0) k ∙ thin_at T x 0 hx (unit_below T g) ∙ quotient_of_unit T g x hx
