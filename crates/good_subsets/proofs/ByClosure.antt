-- Good sets: the blocks of fusions, told by closures and cut by prefixes.
use Rattle.std.proofs.Common.{◌≡◌, ◌==◌, ℕ, ◌+◌, ◌*◌, ◌<◌, ◌≤◌, Bool, true, false, cond, ltb, List, length, take, filter, Contains, slice_index, refl, sym, ap, subst, ◌∙◌, arith}
use Rattle.std.proofs.lemmas.Bool.{eqb-true, eq-eqb}
use Rattle.std.proofs.lemmas.Bool.Decides.{Decides-eqb, same_from_decides}
use Rattle.std.proofs.lemmas.List.{get_or-map, length-map, get_or-take, length-take-le}
use Rattle.pair_colours.specs.Colouring.{PairColouring, IsColouring, Refines, colour_at, points}
use Rattle.pair_colours.specs.ColourSets.{is_in}
use Rattle.pair_colours.specs.Closure.{IsClosure}
use Rattle.pair_colours.specs.Naming.{rank_of}
use Rattle.pair_colours.specs.IntersectionNumber.{pair_of_class}
use Rattle.pair_colours.proofs.Counts.{unit_of}
use Rattle.pair_colours.proofs.Places.{place_below}
use Rattle.struct_consts.specs.ClassData.{IsConfiguration}
use Rattle.colour_wl.proofs.Classes.{colour_at-below, pair_of_class-holds}
use Rattle.colour_wl.specs.Fusions.{merge, IsFusion}
use Rattle.colour_wl.specs.BlockSums.{places_of}
use Rattle.pair_colours.specs.Subsets.{IsSetBelow}
use Rattle.good_subsets.specs.GoodSets.{IsGood, in_or_not, IsOneClass}
use Rattle.colour_wl.proofs.Merged.{colour_at-merge, IsColouring-merge}
use Rattle.colour_wl.proofs.Coarser.{class_colour, class_colour-at, fusion_of_coarser}
use Rattle.pair_colours.proofs.SubsetLemmas.{set_is_filter}
use Rattle.good_subsets.proofs.BlockPlaces.{is_in-places_of, Contains_at, Contains_from_at, places_of-take}
use Rattle.pair_colours.proofs.ListLemmas.{filter_points_agree}

pub colour_at-in_or_not : (K : PairColouring) → IsColouring K → (set : List ℕ) (x y : ℕ) → x < K.size → y < K.size
    → colour_at (in_or_not K set) x y ≡ cond (is_in set (colour_at K x y)) 1 0
colour_at-in_or_not K h set x y hx hy =
    get_or-map (λ c. cond (is_in set c) 1 0) K.colours (x * K.size + y) 0 0 (subst (λ m. x * K.size + y < m) (sym h.has_pairs) (place_below K.size x y hx hy))

pub IsColouring-in_or_not : (K : PairColouring) → IsColouring K → (set : List ℕ) → IsColouring (in_or_not K set)
IsColouring-in_or_not K h set = record { has_points = h.has_points; has_pairs = length-map K.colours (λ c. cond (is_in set c) 1 0) ∙ h.has_pairs }

-- a fusion with the set as a block keeps the pairs of the set apart from the others
fusion_refines : (K : PairColouring) → IsColouring K → (a : List ℕ) (set : List ℕ) (v : ℕ) → ((x y : ℕ) → x < K.size → y < K.size → is_in set (colour_at K x y) ≡ (slice_index a (colour_at K x y) == v))
    → Refines (merge K a) (in_or_not K set)
fusion_refines K h a set v s = record {
  sizes = refl;
  classes = λ x y u w hx hy hu hw e.
      to x y hx hy ∙ ap (λ c. cond (c == v) 1 0) e ∙ sym (to u w hu hw);
}
  where
    to : (x y : ℕ) → x < K.size → y < K.size → colour_at (in_or_not K set) x y ≡ cond (colour_at (merge K a) x y == v) 1 0
    to x y hx hy =
        colour_at-in_or_not K h set x y hx hy
        ∙ ap (λ b. cond b 1 0) (s x y hx hy)
        ∙ ap (λ c. cond (c == v) 1 0) (sym (colour_at-merge K h a x y hx hy))

pub one_from_unit : (b : Bool) → unit_of b ≡ 1 → b ≡ true
one_from_unit true e = refl
one_from_unit false e = absurd (omega (arith, e))

-- a good set is one class of the closure
pub class_from_good : (K : PairColouring) → IsConfiguration K → (set : List ℕ) (L : PairColouring) → IsClosure L (in_or_not K set) → IsGood K set → IsOneClass K L set
class_from_good K h set L l g =
    let a : List ℕ = g.fusion in
    let v : ℕ = g.block.number in
    let at = Contains_at a v g.block.used in
    let p = pair_of_class-holds K h at.0 (omega (arith, at.1, g.is_fusion.growth.len)) in
    let inside : (x y : ℕ) → x < K.size → y < K.size → is_in set (colour_at K x y) ≡ (slice_index a (colour_at K x y) == v) = λ x y hx hy.
    ap (λ s. is_in s (colour_at K x y)) g.block.places ∙ is_in-places_of a v (colour_at K x y) (omega (arith, colour_at-below K h x y hx hy, g.is_fusion.growth.len)) in
    let coarser : Refines (merge K a) L = l.coarsest (merge K a) (IsColouring-merge K h.colouring a) g.is_fusion.coherent (fusion_refines K h.colouring a set v inside) in
    let first : colour_at (merge K a) (pair_of_class K at.0).0 (pair_of_class K at.0).1 ≡ v = colour_at-merge K h.colouring a _ _ p.row p.column ∙ ap (slice_index a) p.colour ∙ at.2 in
    let own : is_in set (colour_at K (pair_of_class K at.0).0 (pair_of_class K at.0).1) ≡ true =
    inside _ _ p.row p.column ∙ eq-eqb _ v (ap (slice_index a) p.colour ∙ at.2) in
    let to : (z : ℕ) → z < K.size → z < L.size = λ z hz. omega (arith, hz, l.refines.sizes) in
    record {
      x = (pair_of_class K at.0).0;
      y = (pair_of_class K at.0).1;
      row = p.row;
      column = p.column;
      is = λ u w hu hw. (
        λ e.
            let same : colour_at (merge K a) u w ≡ v = colour_at-merge K h.colouring a u w hu hw ∙ eqb-true _ v (sym (inside u w hu hw) ∙ e) in
            coarser.classes u w _ _ hu hw p.row p.column (same ∙ sym first),
        λ e. one_from_unit _
            (sym (colour_at-in_or_not K h.colouring set u w hu hw)
            ∙ l.refines.classes u w _ _ (to u hu) (to w hw) (to _ p.row) (to _ p.column) e
            ∙ colour_at-in_or_not K h.colouring set _ _ p.row p.column
            ∙ ap (λ b. cond b 1 0) own),
      );
    }

refines-in_or_not : (K : PairColouring) → IsColouring K → (set : List ℕ) → Refines K (in_or_not K set)
refines-in_or_not K h set = record {
  sizes = refl;
  classes = λ x y u v hx hy hu hv e. colour_at-in_or_not K h set x y hx hy ∙ ap (λ c. cond (is_in set c) 1 0) e ∙ sym (colour_at-in_or_not K h set u v hu hv);
}

-- a set whose pairs are one class of the closure is good
pub good_from_class : (K : PairColouring) → IsConfiguration K → (set : List ℕ) → IsSetBelow (rank_of K) set → (L : PairColouring) → IsClosure L (in_or_not K set) → IsOneClass K L set → IsGood K set
good_from_class K h set s L l one =
    let r : Refines K L = l.coarsest K h.colouring h.coherent (refines-in_or_not K h.colouring set) in
    let f = fusion_of_coarser K L h l.colouring l.coherent r in
    let a : List ℕ = f.0 in
    let c : ℕ = colour_at K one.x one.y in
    let low : c < rank_of K = colour_at-below K h one.x one.y one.row one.column in
    let own : class_colour K L c ≡ colour_at L one.x one.y = class_colour-at K L h r one.x one.y one.row one.column in
    let agree : (d : ℕ) → d < rank_of K → is_in set d ≡ (slice_index a d == slice_index a c) = λ d m.
    let p = pair_of_class-holds K h d m in
    let is : (is_in set d ≡ true → class_colour K L d ≡ colour_at L one.x one.y) × (class_colour K L d ≡ colour_at L one.x one.y → is_in set d ≡ true) =
    let i = one.is (pair_of_class K d).0 (pair_of_class K d).1 p.row p.column in
    (λ e. i.0 (ap (is_in set) p.colour ∙ e), λ e. ap (is_in set) (sym p.colour) ∙ i.1 e) in
    same_from_decides {P = slice_index a d ≡ slice_index a c} _ _
    (λ e. f.2.together d c m low (is.0 e ∙ sym own), λ e. is.1 (f.2.apart d c m low e ∙ own))
    (Decides-eqb (slice_index a d) (slice_index a c)) in
    record {
      fusion = a;
      is_fusion = f.1;
      block = record {
        number = slice_index a c;
        used = Contains_from_at a (slice_index a c) c (omega (arith, low, f.1.growth.len)) refl;
        places =
            set_is_filter (rank_of K) set s
            ∙ filter_points_agree (is_in set) (λ d. slice_index a d == slice_index a c) (rank_of K) agree
            ∙ ap (λ n. filter (λ d. slice_index a d == slice_index a c) (points n)) (sym f.1.growth.len);
      };
    }

pub good_by_closure : (K : PairColouring) → IsConfiguration K → (set : List ℕ) → IsSetBelow (rank_of K) set → (L : PairColouring) → IsClosure L (in_or_not K set)
    → (IsGood K set → IsOneClass K L set) × (IsOneClass K L set → IsGood K set)
good_by_closure K h set s L l = (class_from_good K h set L l, good_from_class K h set s L l)

-- the blocks of a fusion are good
pub block_is_good : (K : PairColouring) (a : List ℕ) (v : ℕ) → IsFusion K a → Contains a v → IsGood K (places_of a v)
block_is_good K a v f u = record { fusion = a; is_fusion = f; block = record { number = v; used = u; places = refl } }

-- and so are cut by prefixes
pub prefixes_are_good : (K : PairColouring) → IsConfiguration K → (a : List ℕ) → IsFusion K a → (n : ℕ) → n ≤ rank_of K
    → (v : ℕ) → Contains (take n a) v → (set : List ℕ) × IsGood K set × (filter (λ c. ltb c n) set ≡ places_of (take n a) v)
prefixes_are_good K h a f n l v u =
    let inside : n ≤ length a = omega (arith, l, f.growth.len) in
    let at = Contains_at (take n a) v u in
    let low : at.0 < n = omega (arith, at.1, length-take-le n a inside) in
    let used : Contains a v = Contains_from_at a v at.0 (omega (arith, low, inside)) (sym (get_or-take n a at.0 0 low) ∙ at.2) in
    (places_of a v, block_is_good K a v f used, places_of-take a n v inside)
