-- In a coherent configuration what is counted at the first pair of a class is the same at each of its pairs.
use Rattle.std.proofs.Common.{◌≡◌, ◌==◌, ◌&&◌, ℕ, ◌<◌, false, List, ⊎_elim, refl, sym, ap, subst, ◌∙◌, arith}
use Rattle.std.proofs.lemmas.Bool.{cases_eq, eq-eqb, ne_eqb, and_from, and_left}
use Rattle.pair_colours.specs.Colouring.{PairColouring, colour_at, triangles}
use Rattle.pair_colours.specs.Closure.{Coherent}
use Rattle.pair_colours.specs.Naming.{rank_of}
use Rattle.pair_colours.specs.IntersectionNumber.{pair_of_class, intersection_number}
use Rattle.pair_colours.proofs.Counts.{count_by_points, triangle_point, counted}
use Rattle.triangle_count.specs.declared.rows.Entry.{Entry}
use Rattle.triangle_count.specs.Row.{IsRowAt}
use Rattle.struct_consts.specs.ClassData.{IsConfiguration, row_count, valency_of, fibres_of}
use Rattle.struct_consts.proofs.Configurations.{pair_of_class-holds}
use Rattle.struct_consts.proofs.Sums.{sum_zero}

-- the triangle numbers at every pair of class k are its intersection numbers
pub triangles-constant : (K : PairColouring) → IsConfiguration K → (k x y i j : ℕ) → k < rank_of K → x < K.size → y < K.size → colour_at K x y ≡ k
    → triangles K x y i j ≡ intersection_number K i j k
triangles-constant K h k x y i j l hx hy e =
    let p = pair_of_class-holds K h k l in
    h.coherent.constant_triangles x y (pair_of_class K k).0 (pair_of_class K k).1 hx hy p.row p.column (e ∙ sym p.colour) i j

-- a row at one pair is the row at each pair of its class
pub IsRowAt-everywhere : (K : PairColouring) → Coherent K → (x y u v : ℕ) → x < K.size → y < K.size → u < K.size → v < K.size → colour_at K x y ≡ colour_at K u v
    → (entries : List Entry) → IsRowAt K x y entries → IsRowAt K u v entries
IsRowAt-everywhere K h x y u v hx hy hu hv e entries r =
    let same = h.constant_triangles x y u v hx hy hu hv e in
    record {
      rises = r.rises;
      nonzero = r.nonzero;
      counts = λ k d l. r.counts k d l ∙ same _ _;
      complete = λ i j m. r.complete i j (omega (arith, m, same i j));
    }

-- over two pairs of one class stand the same triangles
pub triangle_moved : (K : PairColouring) → Coherent K → (x y u v z : ℕ) → x < K.size → y < K.size → u < K.size → v < K.size → z < K.size → colour_at K x y ≡ colour_at K u v
    → (w : ℕ) × (w < K.size) × (colour_at K u w ≡ colour_at K x z) × (colour_at K w v ≡ colour_at K z y)
triangle_moved K h x y u v z hx hy hu hv hz e =
    let i = colour_at K x z in
    let j = colour_at K z y in
    let here : 0 < triangles K x y i j =
    counted (λ w. (colour_at K x w == i) && (colour_at K w y == j)) K.size z hz (and_from (colour_at K x z == i) (colour_at K z y == j) (eq-eqb (colour_at K x z) i refl) (eq-eqb (colour_at K z y) j refl)) in
    triangle_point K u v i j (omega (arith, here, h.constant_triangles x y u v hx hy hu hv e i j))

-- the pairs of a class begin in one fibre and end in one
pub fibre_same : (K : PairColouring) → Coherent K → (x y u v : ℕ) → x < K.size → y < K.size → u < K.size → v < K.size → colour_at K x y ≡ colour_at K u v
    → colour_at K x x ≡ colour_at K u u
fibre_same K h x y u v hx hy hu hv e =
    let z = triangle_moved K h x y u v x hx hy hu hv hx e in
    let is : u ≡ z.0 = h.splits_diagonal x u z.0 hx hu z.1 (sym z.2) in
    sym z.2 ∙ ap (colour_at K u) (sym is)

pub fibre_same_end : (K : PairColouring) → Coherent K → (x y u v : ℕ) → x < K.size → y < K.size → u < K.size → v < K.size → colour_at K x y ≡ colour_at K u v
    → colour_at K y y ≡ colour_at K v v
fibre_same_end K h x y u v hx hy hu hv e = fibre_same K h y x v u hy hx hv hu (h.closed_under_transpose x y u v hx hy hu hv e)

-- points of one fibre see a class equally often
pub row_count-fibre : (K : PairColouring) → Coherent K → (x u : ℕ) → x < K.size → u < K.size → colour_at K x x ≡ colour_at K u u
    → (a b : ℕ) → a < K.size → b < K.size → row_count K x (colour_at K a b) ≡ row_count K u (colour_at K a b)
row_count-fibre K h x u hx hu e a b ha hb =
    let back : (w : ℕ) → w < K.size → row_count K w (colour_at K a b) ≡ triangles K w w (colour_at K a b) (colour_at K b a) = λ w hw.
    count_by_points (λ v. colour_at K w v == colour_at K a b) (λ v. (colour_at K w v == colour_at K a b) && (colour_at K v w == colour_at K b a)) K.size
    (λ v hv. ⊎_elim
    (λ s. eq-eqb _ _ s ∙ sym (and_from _ _ (eq-eqb _ _ s) (eq-eqb _ _ (h.closed_under_transpose w v a b hw hv ha hb s))))
    (λ ne. ne_eqb _ _ ne ∙ sym (and_left _ _ (ne_eqb _ _ ne)))
    (cases_eq (colour_at K w v) (colour_at K a b))) in
    back x hx ∙ h.constant_triangles x x u u hx hx hu hu e (colour_at K a b) (colour_at K b a) ∙ sym (back u hu)

-- a point of another fibre sees none of its pairs
pub row_count-other : (K : PairColouring) → Coherent K → (x a b : ℕ) → x < K.size → a < K.size → b < K.size → (colour_at K x x ≡ colour_at K a a → ⊥)
    → row_count K x (colour_at K a b) ≡ 0
row_count-other K h x a b hx ha hb ne =
    count_by_points (λ v. colour_at K x v == colour_at K a b) (λ v. false) K.size
    (λ v hv. ne_eqb _ _ (λ s. ne (fibre_same K h x v a b hx hv ha hb s)))
    ∙ sum_zero K.size

-- every point of its first fibre sees a class as often as its valency says
pub valency-fibre : (K : PairColouring) → IsConfiguration K → (k x : ℕ) → k < rank_of K → x < K.size → colour_at K x x ≡ (fibres_of K k).0 → row_count K x k ≡ valency_of K k
valency-fibre K h k x l hx e =
    let p = pair_of_class-holds K h k l in
    subst (λ c. row_count K x c ≡ row_count K (pair_of_class K k).0 c) p.colour
    (row_count-fibre K h.coherent x (pair_of_class K k).0 hx p.row e (pair_of_class K k).0 (pair_of_class K k).1 p.row p.column)

-- and so does the first point of each of its pairs
pub valency-everywhere : (K : PairColouring) → IsConfiguration K → (k x y : ℕ) → k < rank_of K → x < K.size → y < K.size → colour_at K x y ≡ k → valency_of K k ≡ row_count K x k
valency-everywhere K h k x y l hx hy e =
    let p = pair_of_class-holds K h k l in
    sym (valency-fibre K h k x l hx (fibre_same K h.coherent x y (pair_of_class K k).0 (pair_of_class K k).1 hx hy p.row p.column (e ∙ sym p.colour)))

pub fibres-everywhere : (K : PairColouring) → IsConfiguration K → (k x y : ℕ) → k < rank_of K → x < K.size → y < K.size → colour_at K x y ≡ k → fibres_of K k ≡ (colour_at K x x, colour_at K y y)
fibres-everywhere K h k x y l hx hy e =
    let p = pair_of_class-holds K h k l in
    let first = fibre_same K h.coherent (pair_of_class K k).0 (pair_of_class K k).1 x y p.row p.column hx hy (p.colour ∙ sym e) in
    let second = fibre_same_end K h.coherent (pair_of_class K k).0 (pair_of_class K k).1 x y p.row p.column hx hy (p.colour ∙ sym e) in
    λ i. (first i, second i)
