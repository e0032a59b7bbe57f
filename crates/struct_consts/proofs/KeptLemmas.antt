-- What the kept data of a class says at its first pair, and at every pair of the class.
use Rattle.std.proofs.Common.{◌≡◌, ℕ, ◌+◌, ◌<◌, ◌≤◌, List, [], ◌∷◌, ◌++◌, length, get_or, All, Option, None, Some, option_map, ⊎_elim, sym, ap, subst, ◌∙◌, arith}
use Rattle.std.proofs.lemmas.Bool.{cases_lt}
use Rattle.std.proofs.lemmas.List.{length_push, get_or_append_left, get_or_push, get_or_default}
use Rattle.pair_colours.specs.Colouring.{PairColouring, FitsColouring, colour_at, triangles}
use Rattle.pair_colours.specs.Naming.{rank_of, first_pair_of, transpose_of}
use Rattle.pair_colours.specs.IntersectionNumber.{pair_of_class}
use Rattle.triangle_count.specs.declared.rows.Entry.{Entry}
use Rattle.triangle_count.specs.Row.{IsRowAt}
use Rattle.pair_colours.proofs.Counts.{triangle_point}
use Rattle.struct_consts.specs.declared.classes.Class.{Class}
use Rattle.struct_consts.specs.ClassData.{IsConfiguration, class_size}
use Rattle.struct_consts.specs.Kept.{IsClassData, IsConstants, HasFirstPairs, HasSizes}
use Rattle.struct_consts.specs.Lookup.{IsCountIn, IsOf}
use Rattle.struct_consts.proofs.Configurations.{first_pair_holds, pair_of_class-is, colour_at-below}
use Rattle.struct_consts.proofs.Constancy.{IsRowAt-everywhere}

-- the row of a class at the pair of its class
pub row_at_pair : (K : PairColouring) (k : ℕ) (c : Class) → IsClassData K k c → IsRowAt K (pair_of_class K k).0 (pair_of_class K k).1 c.row.items
row_at_pair K k c h = subst (λ (p : ℕ × ℕ). IsRowAt K p.0 p.1 c.row.items) (sym (pair_of_class-is K k c.pair h.pair)) h.row

-- and at each pair of the class
pub row_everywhere : (K : PairColouring) (k : ℕ) (c : Class) → IsConfiguration K → IsClassData K k c → (x y : ℕ) → x < K.size → y < K.size → colour_at K x y ≡ k → IsRowAt K x y c.row.items
row_everywhere K k c g h x y hx hy e =
    let p = first_pair_holds K k c.pair h.pair in
    IsRowAt-everywhere K g.coherent c.pair.0 c.pair.1 x y p.row p.column hx hy (p.colour ∙ sym e) c.row.items h.row

-- a count in the row of a pair is a triangle number
pub triangles-count_in : (K : PairColouring) (x y i j n : ℕ) (entries : List Entry) → IsRowAt K x y entries → IsCountIn entries i j n → n ≡ triangles K x y i j
triangles-count_in K x y i j n entries r h = ⊎_elim
    (λ (some : 0 < triangles K x y i j).
    let a = r.complete i j some in
    let e : Entry = a.1 in
    let there = h.there a.0 e a.2 (subst (IsOf i j) (sym a.3) a.4) in
    let counted = r.counts a.0 e a.2 in
    there ∙ counted ∙ ap (λ (f : Entry). triangles K x y f.left f.right) a.3 ∙ (λ t. triangles K x y (a.4.0 t) (a.4.1 t)))
    (λ (none : triangles K x y i j ≤ 0).
    h.absent (λ k d l o. let m = r.nonzero k d l in let c = r.counts k d l in
    let z : triangles K x y (get_or entries k d).left (get_or entries k d).right ≡ triangles K x y i j = λ t. triangles K x y (o.0 t) (o.1 t) in
    omega (arith, m, c, z, none))
    ∙ omega arith)
    (cases_lt 0 (triangles K x y i j))

-- the colours of a row are below the rank
pub row_colours : (K : PairColouring) (x y : ℕ) (entries : List Entry) → IsConfiguration K → x < K.size → y < K.size → IsRowAt K x y entries
    → All (λ e. (e.left < rank_of K) × (e.right < rank_of K)) entries
row_colours K x y entries g hx hy r k d l =
    let e = get_or entries k d in
    let some : 0 < triangles K x y e.left e.right = omega (arith, r.nonzero k d l, r.counts k d l) in
    let z = triangle_point K x y e.left e.right some in
    (subst (λ c. c < rank_of K) z.2 (colour_at-below K g x z.0 hx z.1), subst (λ c. c < rank_of K) z.3 (colour_at-below K g z.0 y z.1 hy))

-- the transpose of a class, at the pair that is kept and at every pair
pub transpose_at : (K : PairColouring) (k : ℕ) (p : ℕ × ℕ) (t : ℕ) → first_pair_of K k ≡ Some p → transpose_of K k ≡ Some t → colour_at K p.1 p.0 ≡ t
transpose_at K k p t e h =
    let z : Some (colour_at K p.1 p.0) ≡ Some t = sym (ap (option_map (λ q. colour_at K q.1 q.0)) e) ∙ h in
    cc

pub transpose_everywhere : (K : PairColouring) (k : ℕ) (c : Class) → IsConfiguration K → IsClassData K k c → (x y : ℕ) → x < K.size → y < K.size → colour_at K x y ≡ k → colour_at K y x ≡ c.transpose
transpose_everywhere K k c g h x y hx hy e =
    let p = first_pair_holds K k c.pair h.pair in
    g.coherent.closed_under_transpose x y c.pair.0 c.pair.1 hx hy p.row p.column (e ∙ sym p.colour) ∙ transpose_at K k c.pair c.transpose h.pair h.transpose

pub transpose_below : (K : PairColouring) (k : ℕ) (c : Class) → IsConfiguration K → IsClassData K k c → c.transpose < rank_of K
transpose_below K k c g h =
    let p = first_pair_holds K k c.pair h.pair in
    subst (λ n. n < rank_of K) (transpose_at K k c.pair c.transpose h.pair h.transpose) (colour_at-below K g c.pair.1 c.pair.0 p.column p.row)

-- what a method finds at the place of a class
pub kept_class : (A K : PairColouring) (classes : List Class) (k : ℕ) (c : Class) → IsConstants A classes → A ≡ K → k < rank_of K → c ≡ get_or classes k c
    → IsConfiguration K × IsClassData K k c
kept_class A K classes k c h e l at =
    let low : k < length classes = omega (arith, h.rank, l, ap rank_of e) in
    (subst IsConfiguration e h.configuration, subst (λ (B : PairColouring). IsClassData B k c) e (subst (IsClassData A k) (sym at) (h.data_of_each k c low)))

-- the data of the first classes, and of one more
pub record HasData (K : PairColouring) (n : ℕ) (classes : List Class) : Type 0 where
  pub len : length classes ≡ n
  pub data_of_each : (k : ℕ) (d : Class) → k < n → IsClassData K k (get_or classes k d)

pub HasData-push : (K : PairColouring) (n : ℕ) (classes new : List Class) (c : Class) → new ≡ classes ++ c ∷ [] → IsClassData K n c → HasData K n classes → HasData K (n + 1) new
HasData-push K n classes new c e one h = record {
  len = ap length e ∙ length_push classes c ∙ omega (arith, h.len);
  data_of_each = λ k d l. subst (λ cs. IsClassData K k (get_or cs k d)) (sym e) (⊎_elim
      (λ (m : k < n). subst (IsClassData K k) (sym (get_or_append_left classes (c ∷ []) d k (omega (arith, m, h.len)))) (h.data_of_each k d m))
      (λ (m : n ≤ k).
      let same : k ≡ n = omega (arith, l, m) in
      subst (λ j. IsClassData K j (get_or (classes ++ c ∷ []) j d)) (sym same) (subst (IsClassData K n) (sym (get_or_push classes c d n h.len)) one))
      (cases_lt k n));
}

pub IsConstants-from_data : (K : PairColouring) (classes : List Class) → FitsColouring K → IsConfiguration K → HasData K (rank_of K) classes → IsConstants K classes
IsConstants-from_data K classes f g h = record {
  fits = f;
  configuration = g;
  rank = h.len;
  data_of_each = λ k d l. h.data_of_each k d (omega (arith, l, h.len));
}

-- what is read of the first pairs
pub first_pair_read : (K : PairColouring) (n k : ℕ) (pairs : List (Option (ℕ × ℕ))) (o : Option (ℕ × ℕ)) → HasFirstPairs K n pairs → k < n → o ≡ get_or pairs k o → first_pair_of K k ≡ o
first_pair_read K n k pairs o h l e = sym (h.each k l) ∙ sym (e ∙ get_or_default pairs k o None (omega (arith, l, h.len)))

-- and of the sizes
pub size_read : (K : PairColouring) (n k : ℕ) (sizes : List ℕ) (s : ℕ) → HasSizes K n sizes → k < n → s ≡ get_or sizes k s → s ≡ class_size K k
size_read K n k sizes s h l e = e ∙ get_or_default sizes k s 0 (omega (arith, l, h.len)) ∙ h.each k l
