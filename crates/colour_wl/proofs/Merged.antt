-- A merged configuration: its colours, and its triangles as sums of structure constants.
use Rattle.std.proofs.Common.{◌≡◌, ◌==◌, ◌&&◌, ℕ, ◌+◌, ◌*◌, ◌<◌, Bool, true, false, List, length, count_by, sum_by, refl, sym, ap, subst, ◌∙◌, arith, slice_index}
use Rattle.std.proofs.lemmas.List.{get_or-map, length-map}
use Rattle.pair_colours.specs.Colouring.{PairColouring, IsColouring, Refines, colour_at, triangles}
use Rattle.pair_colours.specs.Closure.{Coherent}
use Rattle.pair_colours.specs.Naming.{rank_of}
use Rattle.pair_colours.specs.IntersectionNumber.{pair_of_class, intersection_number}
use Rattle.pair_colours.proofs.Counts.{unit_of, count_by_points, sum_by_points_agree}
use Rattle.pair_colours.proofs.Places.{place_below}
use Rattle.struct_consts.specs.ClassData.{IsConfiguration}
use Rattle.colour_wl.proofs.Classes.{colour_at-below, pair_of_class-holds}
use Rattle.struct_consts.proofs.LawProofs.{triangles_are_constants}
use Rattle.colour_wl.specs.Fusions.{merge}
use Rattle.colour_wl.specs.BlockSums.{places_of, product_at, transposed, HasCoherentBlocks}
use Rattle.colour_wl.proofs.Sums.{sum_by_agree, products_counted, count_of_place}

pub colour_at-merge : (K : PairColouring) → IsColouring K → (a : List ℕ) (x y : ℕ) → x < K.size → y < K.size → colour_at (merge K a) x y ≡ slice_index a (colour_at K x y)
colour_at-merge K h a x y hx hy =
    get_or-map (slice_index a) K.colours (x * K.size + y) 0 0 (subst (λ m. x * K.size + y < m) (sym h.has_pairs) (place_below K.size x y hx hy))

pub IsColouring-merge : (K : PairColouring) → IsColouring K → (a : List ℕ) → IsColouring (merge K a)
IsColouring-merge K h a = record { has_points = h.has_points; has_pairs = length-map K.colours (slice_index a) ∙ h.has_pairs }

pub refines-merge : (K : PairColouring) → IsColouring K → (a : List ℕ) → Refines K (merge K a)
refines-merge K h a = record {
  sizes = refl;
  classes = λ x y u v hx hy hu hv e. colour_at-merge K h a x y hx hy ∙ ap (slice_index a) e ∙ sym (colour_at-merge K h a u v hu hv);
}

unit_times : (a b : Bool) → unit_of (a && b) ≡ unit_of a * unit_of b
unit_times true b = omega arith
unit_times false b = omega arith

-- the triangles of the merged colouring on a pair are a coefficient of a product of blocks
pub triangles-merge : (K : PairColouring) → IsConfiguration K → (a : List ℕ) → length a ≡ rank_of K → (x y u v : ℕ) → x < K.size → y < K.size
    → triangles (merge K a) x y u v ≡ product_at K (places_of a u) (places_of a v) (colour_at K x y)
triangles-merge K h a len x y u v hx hy =
    let f : ℕ → ℕ = λ z. colour_at K x z in
    let g : ℕ → ℕ = λ z. colour_at K z y in
    let left : (z : ℕ) → z < K.size → f z < length a = λ z hz. subst (λ n. f z < n) (sym len) (colour_at-below K h x z hx hz) in
    let right : (z : ℕ) → z < K.size → g z < length a = λ z hz. subst (λ n. g z < n) (sym len) (colour_at-below K h z y hz hy) in
    count_by_points (λ z. (colour_at (merge K a) x z == u) && (colour_at (merge K a) z y == v)) (λ z. (slice_index a (f z) == u) && (slice_index a (g z) == v)) K.size
    (λ z hz i. (colour_at-merge K h.colouring a x z hx hz i == u) && (colour_at-merge K h.colouring a z y hz hy i == v))
    ∙ sum_by_points_agree (λ z. unit_of ((slice_index a (f z) == u) && (slice_index a (g z) == v)))
    (λ z. count_by (λ i. f z == i) (places_of a u) * count_by (λ j. g z == j) (places_of a v)) K.size
    (λ z hz. unit_times (slice_index a (f z) == u) (slice_index a (g z) == v)
    ∙ (λ i. sym (count_of_place (λ c. slice_index a c == u) (f z) (length a) (left z hz)) i * sym (count_of_place (λ c. slice_index a c == v) (g z) (length a) (right z hz)) i))
    ∙ sym (products_counted f g (places_of a u) (places_of a v) K.size)
    ∙ sum_by_agree (λ i. sum_by (λ j. triangles K x y i j) (places_of a v)) (λ i. sum_by (λ j. intersection_number K i j (colour_at K x y)) (places_of a v))
    (λ i. sum_by_agree (λ j. triangles K x y i j) (λ j. intersection_number K i j (colour_at K x y))
    (λ j. triangles_are_constants K h x y i j hx hy) (places_of a v)) (places_of a u)

-- what is coherent has coherent blocks
pub blocks_from_coherent : (K : PairColouring) → IsConfiguration K → (a : List ℕ) → length a ≡ rank_of K → Coherent (merge K a) → HasCoherentBlocks K a
blocks_from_coherent K h a len m = record {
  splits_diagonal = λ i j li lj e d.
      let q = pair_of_class-holds K h j lj in
      let x : ℕ = (pair_of_class K j).0 in
      let y : ℕ = (pair_of_class K j).1 in
      let same : x ≡ y = m.splits_diagonal d.x x y d.row q.row q.column (at d.x d.x d.row d.row ∙ ap (slice_index a) d.is ∙ e ∙ ap (slice_index a) (sym q.colour) ∙ sym (at x y q.row q.column)) in
      record { x = x; row = q.row; is = ap (colour_at K x) same ∙ q.colour };
  closed_under_transpose = λ i j li lj.
      let p = pair_of_class-holds K h i li in
      let q = pair_of_class-holds K h j lj in (
        λ e. sym (at _ _ p.column p.row)
            ∙ m.closed_under_transpose _ _ _ _ p.row p.column q.row q.column (at _ _ p.row p.column ∙ ap (slice_index a) p.colour ∙ e ∙ ap (slice_index a) (sym q.colour) ∙ sym (at _ _ q.row q.column))
            ∙ at _ _ q.column q.row,
        λ e. ap (slice_index a) (sym p.colour)
            ∙ sym (at _ _ p.row p.column)
            ∙ m.closed_under_transpose _ _ _ _ p.column p.row q.column q.row (at _ _ p.column p.row ∙ e ∙ sym (at _ _ q.column q.row))
            ∙ at _ _ q.row q.column
            ∙ ap (slice_index a) q.colour,
      );
  constant_products = λ k l lk ll e u v.
      let p = pair_of_class-holds K h k lk in
      let q = pair_of_class-holds K h l ll in
      ap (product_at K (places_of a u) (places_of a v)) (sym p.colour)
      ∙ sym (triangles-merge K h a len _ _ u v p.row p.column)
      ∙ m.constant_triangles _ _ _ _ p.row p.column q.row q.column (at _ _ p.row p.column ∙ ap (slice_index a) p.colour ∙ e ∙ ap (slice_index a) (sym q.colour) ∙ sym (at _ _ q.row q.column)) u v
      ∙ triangles-merge K h a len _ _ u v q.row q.column
      ∙ ap (product_at K (places_of a u) (places_of a v)) q.colour;
}
  where
    at : (x y : ℕ) → x < K.size → y < K.size → colour_at (merge K a) x y ≡ slice_index a (colour_at K x y)
    at x y hx hy = colour_at-merge K h.colouring a x y hx hy

-- the colour of a turned pair
pub transposed-everywhere : (K : PairColouring) → IsConfiguration K → (x y : ℕ) → x < K.size → y < K.size → transposed K (colour_at K x y) ≡ colour_at K y x
transposed-everywhere K h x y hx hy =
    let p = pair_of_class-holds K h (colour_at K x y) (colour_at-below K h x y hx hy) in
    h.coherent.closed_under_transpose _ _ x y p.row p.column hx hy p.colour

-- and what has coherent blocks is coherent
pub coherent_from_blocks : (K : PairColouring) → IsConfiguration K → (a : List ℕ) → length a ≡ rank_of K → HasCoherentBlocks K a → Coherent (merge K a)
coherent_from_blocks K h a len b = record {
  splits_diagonal = λ x u v hx hu hv e.
      let d = b.splits_diagonal (colour_at K x x) (colour_at K u v) (colour_at-below K h x x hx hx) (colour_at-below K h u v hu hv)
      (below x x u v hx hx hu hv e) (record { x = x; row = hx; is = refl }) in
      h.coherent.splits_diagonal d.x u v d.row hu hv d.is;
  closed_under_transpose = λ x y u v hx hy hu hv e.
      at y x hy hx
      ∙ ap (slice_index a) (sym (transposed-everywhere K h x y hx hy))
      ∙ (b.closed_under_transpose (colour_at K x y) (colour_at K u v) (colour_at-below K h x y hx hy) (colour_at-below K h u v hu hv)).0 (below x y u v hx hy hu hv e)
      ∙ ap (slice_index a) (transposed-everywhere K h u v hu hv)
      ∙ sym (at v u hv hu);
  constant_triangles = λ x y u v hx hy hu hv e i j.
      triangles-merge K h a len x y i j hx hy
      ∙ b.constant_products (colour_at K x y) (colour_at K u v) (colour_at-below K h x y hx hy) (colour_at-below K h u v hu hv) (below x y u v hx hy hu hv e) i j
      ∙ sym (triangles-merge K h a len u v i j hu hv);
}
  where
    at : (x y : ℕ) → x < K.size → y < K.size → colour_at (merge K a) x y ≡ slice_index a (colour_at K x y)
    at x y hx hy = colour_at-merge K h.colouring a x y hx hy

    below : (x y u v : ℕ) → x < K.size → y < K.size → u < K.size → v < K.size → colour_at (merge K a) x y ≡ colour_at (merge K a) u v → slice_index a (colour_at K x y) ≡ slice_index a (colour_at K u v)
    below x y u v hx hy hu hv e = sym (at x y hx hy) ∙ e ∙ at u v hu hv

pub fusions_by_sums : (K : PairColouring) → IsConfiguration K → (a : List ℕ) → length a ≡ rank_of K
    → (Coherent (merge K a) → HasCoherentBlocks K a) × (HasCoherentBlocks K a → Coherent (merge K a))
fusions_by_sums K h a len = (blocks_from_coherent K h a len, coherent_from_blocks K h a len)
