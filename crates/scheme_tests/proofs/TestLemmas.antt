-- What the look-ups of the tests say.
use Rattle.std.proofs.Common.{◌≡◌, ℕ, ◌+◌, ◌<◌, ◌≤◌, List, length, get_or, Some, option_map, ⊎_elim, refl, sym, ap, subst, ◌∙◌, arith}
use Rattle.std.proofs.lemmas.Bool.{cases_lt}
use Rattle.pair_colours.specs.Colouring.{PairColouring, IsColour, colour_at}
use Rattle.pair_colours.specs.Naming.{rank_of, transpose_of}
use Rattle.pair_colours.specs.IntersectionNumber.{pair_of_class, intersection_number}
use Rattle.struct_consts.specs.Entry.{Entry}
use Rattle.struct_consts.specs.Row.{IsRowAt}
use Rattle.struct_consts.specs.ClassData.{IsConfiguration, row_count, valency_of}
use Rattle.struct_consts.proofs.LawProofs.{colours_are_below_rank, classes_have_pairs, rows_are_valencies}
use Rattle.scheme_tests.specs.SchemeTests.{Homogeneous, Symmetric, Commutative, CommutesAt, Thin}

-- the colour of a pair is a colour
pub colour_of : (K : PairColouring) (x y : ℕ) → x < K.size → y < K.size → IsColour K (colour_at K x y)
colour_of K x y hx hy = record { x = x; y = y; row = hx; column = hy; is = refl }

-- the numbers of one class are the same with i and j exchanged, if they are so at each entry of its row
pub commutes_from_entries : (K : PairColouring) (k : ℕ) (entries : List Entry) → IsRowAt K (pair_of_class K k).0 (pair_of_class K k).1 entries
    → ((a : ℕ) (d : Entry) → a < length entries → intersection_number K (get_or entries a d).right (get_or entries a d).left k ≡ (get_or entries a d).count)
    → CommutesAt K k
commutes_from_entries K k entries r each = record {
  swapped = λ i j _ _. ⊎_elim
      (λ (m : 0 < intersection_number K i j k). sym (turned i j m))
      (λ (m : intersection_number K i j k ≤ 0). ⊎_elim
      (λ (n : 0 < intersection_number K j i k). turned j i n)
      (λ (n : intersection_number K j i k ≤ 0). omega (arith, m, n))
      (cases_lt 0 (intersection_number K j i k)))
      (cases_lt 0 (intersection_number K i j k));
}
  where
    turned : (i j : ℕ) → 0 < intersection_number K i j k → intersection_number K j i k ≡ intersection_number K i j k
    turned i j m =
        let a = r.complete i j m in
        let e : Entry = a.1 in
        let number = each a.0 e a.2 in
        let counted = r.counts a.0 e a.2 in
        let is : get_or entries a.0 e ≡ e = a.3 in
        (λ t. intersection_number K (sym a.4.1 t) (sym a.4.0 t) k)
        ∙ subst (λ (f : Entry). intersection_number K f.right f.left k ≡ f.count) is number
        ∙ subst (λ (f : Entry). f.count ≡ intersection_number K f.left f.right k) is counted
        ∙ (λ t. intersection_number K (a.4.0 t) (a.4.1 t) k)

-- the classes before the n-th commute
pub record CommutesBefore (K : PairColouring) (n : ℕ) : Type 0 where
  pub each : (k : ℕ) → k < n → CommutesAt K k

pub commutes_before_none : (K : PairColouring) → CommutesBefore K 0
commutes_before_none K = record { each = λ k l. absurd (omega (arith, l)) }

pub commutes_before_more : (K : PairColouring) (n : ℕ) → CommutesBefore K n → CommutesAt K n → CommutesBefore K (n + 1)
commutes_before_more K n before here = record {
  each = λ k l. ⊎_elim
      (λ (m : k < n). before.each k m)
      (λ (m : n ≤ k). let same : n ≡ k = omega (arith, l, m) in subst (CommutesAt K) same here)
      (cases_lt k n);
}

pub commutative_from_each : (K : PairColouring) (n : ℕ) → IsConfiguration K → rank_of K ≤ n → CommutesBefore K n → Commutative K
commutative_from_each K n g r before = record { swapped = λ i j k ui uj uk. (before.each k (omega (arith, below k uk, r))).swapped i j (below i ui) (below j uj) }
  where
    below : (c : ℕ) → IsColour K c → c < rank_of K
    below c = (colours_are_below_rank K g c).1

pub commutes_at_each : (K : PairColouring) → IsConfiguration K → Commutative K → (k : ℕ) → k < rank_of K → CommutesAt K k
commutes_at_each K g h k l = record { swapped = λ i j hi hj. h.swapped i j k (colour i hi) (colour j hj) (colour k l) }
  where
    colour : (c : ℕ) → c < rank_of K → IsColour K c
    colour c = (colours_are_below_rank K g c).0

-- the turned pairs of a class that is its own transpose have its colour
pub symmetric_from_each : (K : PairColouring) → IsConfiguration K → ((x y : ℕ) → x < K.size → y < K.size → colour_at K x y < rank_of K → colour_at K y x ≡ colour_at K x y) → Symmetric K
symmetric_from_each K g each = record { turned = λ x y hx hy. sym (each x y hx hy ((colours_are_below_rank K g (colour_at K x y)).1 (colour_of K x y hx hy))) }

pub transpose_in_symmetric : (K : PairColouring) → IsConfiguration K → (k t : ℕ) → k < rank_of K → transpose_of K k ≡ Some t → Symmetric K → t ≡ k
transpose_in_symmetric K g k t l e h =
    let first = classes_have_pairs K g k l in
    let p = first.1 in
    let is : colour_at K (pair_of_class K k).1 (pair_of_class K k).0 ≡ t = let z : Some (colour_at K (pair_of_class K k).1 (pair_of_class K k).0) ≡ Some t = ap (option_map (λ q. colour_at K q.1 q.0)) (sym first.0) ∙ e in cc in
    sym is ∙ sym (h.turned (pair_of_class K k).0 (pair_of_class K k).1 p.row p.column) ∙ p.colour

-- the lemmas of the two tests that look at each class
pub ruleset commutative_steps = (commutes_before_none, commutes_before_more, commutative_from_each, commutes_at_each)

pub ruleset symmetric_steps = (symmetric_from_each, transpose_in_symmetric)

-- in a homogeneous configuration each point sees a class as often as its valency says
pub row_count-homogeneous : (K : PairColouring) → IsConfiguration K → Homogeneous K → (x k : ℕ) → x < K.size → k < rank_of K → row_count K x k ≡ valency_of K k
row_count-homogeneous K g h x k hx l =
    let p = (classes_have_pairs K g k l).1 in
    rows_are_valencies K g k x l hx (h.one_fibre x (pair_of_class K k).0 hx p.row)

pub thin_from_valencies : (K : PairColouring) → IsConfiguration K → Homogeneous K → ((c : ℕ) → c < rank_of K → valency_of K c ≡ 1) → Thin K
thin_from_valencies K g h one = record {
  homogeneous = h;
  one_point = λ x k hx u. let l = (colours_are_below_rank K g k).1 u in row_count-homogeneous K g h x k hx l ∙ one k l;
}

pub valencies_in_thin : (K : PairColouring) → IsConfiguration K → Thin K → (c : ℕ) → c < rank_of K → valency_of K c ≡ 1
valencies_in_thin K g t c l =
    let p = (classes_have_pairs K g c l).1 in
    t.one_point (pair_of_class K c).0 c p.row ((colours_are_below_rank K g c).0 l)
